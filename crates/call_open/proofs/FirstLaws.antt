-- What entering the first state leaves of zero bytes. Assumes nothing.
use mathlib.Core.Bool.{Bool, true, false}
use mathlib.Core.List.{List, ◌++◌}
use mathlib.Core.Option.{Option, none, some}
use mathlib.Core.Path.{◌≡◌, refl, sym, ap, ◌∙◌}
use Prim.Native.Nat.{ℕ, zero, suc, ◌-◌, ◌/◌, ◌≤◌}
use native.Mathlib.Omega.{arith}
use lib.ListN.{drop, length, length-replicate, take}
use lib.Seq.{length-take-le, take_all, take-append_seam}
use Rattle.language.specs.Calls.{open_words, or_zero_words, over}
use Rattle.language.specs.Decode.{decode, section_at}
use Rattle.language.specs.Description.{Description, sequencing_of, state_at}
use Rattle.language.specs.Image.{passes}
use Rattle.language.specs.Layout.{store_size, store_size_of}
use Rattle.language.specs.Meaning.{no_state_value}
use Rattle.language.specs.Reading.{filled, zeroes}
use Rattle.language.specs.Step.{Entered, set_register}
use Rattle.language.specs.Store.{StoreWords, from_bytes, to_bytes, zero_words}
use Rattle.about_running.specs.NeverStuck.{legal-image}
use Rattle.about_running.specs.StateValues.{bears-value}
use Rattle.store_layout.proofs.ByteLists.{bytes_take}
use Rattle.store_layout.proofs.Inverse.{bytes-again}
use Rattle.store_layout.proofs.Zeros.{store-zero}
use Rattle.store_layout.specs.Layout.{Bytes}
use Rattle.run_references.specs.Described.{Describes}
use Rattle.image_lookups.proofs.PassLaws.{states-many}
use Rattle.language.specs.Encode.{expressions_section, facilities_section, facility_size, node_size, state_size, states_section}
use Rattle.run_begin.proofs.BeginLaws.{bytes-zeros, zeros}
use Rattle.run_soundness.proofs.PassedLaws.{passed-described, passed-facilities, passed-fits, passed-register, passed-size, passed-takes, passed-valued}
use Rattle.run_end.specs.Register.{Enters, entered}

drop-zeroes : (k n : ℕ) → drop k (zeroes n) ≡ zeroes (n - k)
drop-zeroes zero n = let e : n - 0 ≡ n = omega arith in rw e
drop-zeroes (suc k) zero = let e : 0 - suc k ≡ 0 = omega arith in rw e
drop-zeroes (suc k) (suc n) = let e : suc n - suc k ≡ n - k = omega arith in rw e (drop-zeroes k n)

pub over-zeroes : (n : ℕ) (bs : List ℕ) → over bs (zeroes n) ≡ filled n bs
unfolding filled
over-zeroes n bs = ap (λ (s : List ℕ). bs ++ s) (drop-zeroes (length bs) n)

take-zeroes : (k n : ℕ) → k ≤ n → take k (zeroes n) ≡ zeroes k
take-zeroes zero n h = refl
take-zeroes (suc k) zero h = absurd (omega arith)
take-zeroes (suc k) (suc n) h = rw (take-zeroes k n (omega arith))

pub bytes-front : (X Y : List ℕ) → Bytes (X ++ Y) → Bytes X
bytes-front X Y b i = rw (take-append_seam X Y) at (bytes_take (X ++ Y) (length X) b i)

module _ (image : List ℕ) (passed : passes image ≡ true) where
  abbrev d : Description
  d = decode image

  passed-enters : Enters (decode image) (section_at facilities_section facility_size image) (section_at expressions_section node_size image) (section_at states_section state_size image)
  passed-enters = record {
    described = passed-described image passed;
    valued = passed-valued image passed;
    register = record { short = passed-register image passed; fits = passed-fits image passed; takes = λ f s n u q v. passed-takes image passed f s n q v u };
    states = states-many image;
  }

  -- The same of sections in hand.
  pub sections-enter : {F E T : List ℕ} → F ≡ section_at facilities_section facility_size image → E ≡ section_at expressions_section node_size image → T ≡ section_at states_section state_size image → Enters (decode image) F E T
  sections-enter p q r = rw (p, q, r) passed-enters

  pub few-records : {F : List ℕ} → F ≡ section_at facilities_section facility_size image → length F / facility_size ≤ 65536
  few-records e = rw e (passed-facilities image passed)

  pub size-known : {F : List ℕ} {n : ℕ} → F ≡ section_at facilities_section facility_size image
      → ((x : Description) (E : List ℕ) → Describes x F E → store_size_of x.facilities ≤ 16384 → n ≡ store_size_of x.facilities) → n ≡ store_size (decode image)
  unfolding store_size
  size-known e f = f d (section_at expressions_section node_size image) (rw e (passed-described image passed)) (passed-size image passed)

  -- The first state has a value where there is a register.
  has_value : (s : StoreWords) → Entered.stuck no_state_value ≡ set_register d (sequencing_of d) (state_at d 0).value s → ⊥
  has_value s = go (sequencing_of d) refl
    where
      go : (x : Option ℕ) → sequencing_of d ≡ x → Entered.stuck no_state_value ≡ set_register d x (state_at d 0).value s → ⊥
      go none q e = let z : ◌≡◌ {A = ℕ} 0 1 = cc in omega arith
      go (some f) q e =
          let L = legal-image image passed in
          let y = e ∙ (bears-value d L f q 0 L.some-state).enters s in
          let z : ◌≡◌ {A = ℕ} 0 1 = cc in omega arith

  words_opened : (r : Bool) (s : StoreWords) → entered r s ≡ set_register d (sequencing_of d) (state_at d 0).value (zero_words d.facilities) → s ≡ open_words d
  unfolding open_words
  words_opened true s e = ap (or_zero_words (zero_words d.facilities)) e
  words_opened false s e = absurd (has_value (zero_words d.facilities) e)

  -- X is what is left of as many bytes as the store has.
  module _ (n : ℕ) (room : store_size (decode image) ≤ n) (X : List ℕ) (are : Bytes X) (size : length X ≡ store_size (decode image)) where
    store-opened : (r : Bool)
        → entered r (from_bytes d.facilities X) ≡ set_register d (sequencing_of d) (state_at d 0).value (from_bytes d.facilities (take (store_size (decode image)) (zeroes n)))
        → over X (zeroes n) ≡ filled n (to_bytes (decode image).facilities (open_words (decode image)))
    unfolding store_size
    store-opened r e =
        let fs = d.facilities in
        let z : from_bytes fs (zeroes (store_size_of fs)) ≡ zero_words fs = store-zero fs (zeroes (store_size_of fs)) (bytes-zeros (store_size_of fs)) (zeros (store_size_of fs)) (omega (arith, length-replicate {A = ℕ} (store_size_of fs) 0)) in
        let w : from_bytes fs X ≡ open_words d = words_opened r (from_bytes fs X) (e ∙ rw (take-zeroes (store_size_of fs) n room, z)) in
        let x : X ≡ to_bytes fs (open_words d) = sym (take_all (store_size_of fs) X (omega arith)) ∙ (sym (bytes-again fs X are (omega arith)) ∙ ap (to_bytes fs) w) in
        over-zeroes n X ∙ ap (filled n) x

  pub front-room : (B : List ℕ) {size : ℕ} → store_size (decode image) ≤ length B → size ≡ store_size (decode image) → store_size_of (decode image).facilities ≤ length (take (size - 0) B)
  unfolding store_size
  front-room B {size} room s = omega (arith, length-take-le (size - 0) B (omega (arith, room, s)), s)

  -- The same of the first bytes of a slice B, which a call left as X.
  pub front-opened : (B X : List ℕ) {size : ℕ} → B ≡ zeroes (length B) → store_size (decode image) ≤ length B → size ≡ store_size (decode image) → Bytes X → length X ≡ length (take (size - 0) B) → (r : Bool)
      → entered r (from_bytes (decode image).facilities X) ≡ set_register (decode image) (sequencing_of (decode image)) (state_at (decode image) 0).value (from_bytes (decode image).facilities (take (size - 0) B))
      → X ++ drop (size - 0) B ≡ filled (length B) (to_bytes (decode image).facilities (open_words (decode image)))
  front-opened B X {size} z room s are l r e =
      let k : size - 0 ≡ store_size d = omega arith in
      let m : length X ≡ store_size d = l ∙ (ap (λ (i : ℕ). length (take i B)) k ∙ length-take-le (store_size d) B room) in
      let t : take (size - 0) B ≡ take (store_size d) (zeroes (length B)) = ap (λ (i : ℕ). take i B) k ∙ ap (take (store_size d)) z in
      let y : drop (size - 0) B ≡ drop (length X) (zeroes (length B)) = ap (λ (i : ℕ). drop i B) (k ∙ sym m) ∙ ap (drop (length X)) z in
      ap (λ (Y : List ℕ). X ++ Y) y ∙ store-opened (length B) room X are m r (e ∙ ap (λ (Y : List ℕ). set_register d (sequencing_of d) (state_at d 0).value (from_bytes d.facilities Y)) t)

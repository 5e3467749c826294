-- A stimulus is tested facility by facility: what is left to test says the same as the whole. Assumes nothing.
use mathlib.Core.Bool.{Bool, true, false, cond, true≢false}
use mathlib.Core.List.{List, [], ◌∷◌}
use mathlib.Core.Path.{◌≡◌, refl, sym, ap, ◌∙◌}
use Prim.Native.Nat.{ℕ, suc, ◌+◌, ◌*◌, ◌≤◌, ◌<◌}
use native.Mathlib.Nat.{add_assoc, zero-add}
use native.Mathlib.Omega.{arith}
use borrow.Author.Tests.{leb-false, leb-true, ne_eqb}
use lib.Dec.{eqb, leb}
use lib.ListN.{drop, length}
use lib.Seq.{drop-cons, drop-drop}
use Rattle.language.specs.Calls.{stimulus_size, well_formed}
use Rattle.language.specs.Description.{Description, Facility, facility_at, no_facility, word_count, word_length}
use Rattle.language.specs.Layout.{facility_bytes, store_size_of, word_bytes}
use Rattle.language.specs.Store.{all_narrow, facility_words, from_bytes, inputs_of, is_input, narrow, words_from}
use Rattle.store_layout.proofs.SpareLaws.{facility-narrow}
use Rattle.store_layout.specs.Spare.{narrow_at}
use Rattle.run_begin.proofs.SizeLaws.{fits-input, fits-other, input-not, input-stored, input-whole, stored_bytes}
use Rattle.run_begin.specs.InBytes.{fits_at, input_bytes}
use Rattle.language.specs.Tests.{both}
use Rattle.std.proofs.lemmas.Option.{none-some, same_Some}
use Rattle.std.specs.Bool.{then_some}
use Rattle.std.proofs.Common.{None, Some}

-- What is left of the stimulus from `at` on is what these facilities take of it.
unfoldable pub well_from : List Facility → List ℕ → ℕ → Bool
well_from fs S at = both (eqb (length S) (at + store_size_of (inputs_of fs))) (narrow (inputs_of fs) (from_bytes (inputs_of fs) (drop at S)))

pub well-all : (d : Description) (S : List ℕ) → well_from d.facilities S 0 ≡ well_formed d S
unfolding well_from well_formed stimulus_size
well-all d S = rw (zero-add (store_size_of (inputs_of d.facilities))) refl

pub well-none : (S : List ℕ) (at : ℕ) → well_from [] S at ≡ eqb (length S) at
unfolding well_from inputs_of store_size_of narrow
well-none S at = let e : at + 0 ≡ at = omega arith in rw e (whole (eqb (length S) at))
  where
    whole : (b : Bool) → both b true ≡ b
    whole true = refl
    whole false = refl

-- What a facility takes, if it fits.
pub fits-some : (b : Bool) (n m : ℕ) → Some m ≡ then_some b n → b ≡ true
fits-some true n m e = refl
fits-some false n m e = absurd (none-some m (sym e))

pub bytes-some : (b : Bool) (n m : ℕ) → Some m ≡ then_some b n → m ≡ n
bytes-some true n m e = same_Some m n e
bytes-some false n m e = absurd (none-some m (sym e))

pub fits-none : (b : Bool) (n : ℕ) → None ≡ then_some b n → b ≡ false
fits-none true n e = absurd (none-some n e)
fits-none false n e = refl

-- Facility n, and those after it.
pub facility-here : (d : Description) (n : ℕ) (f : Facility) → n < length d.facilities → facility_at d n ≡ f → drop n d.facilities ≡ f ∷ drop (suc n) d.facilities
unfolding facility_at
facility-here d n f h e = drop-cons d.facilities n no_facility h ∙ ap (λ (g : Facility). g ∷ drop (suc n) d.facilities) e

both-none : (a : Bool) → both a false ≡ false
both-none true = refl
both-none false = refl

module _ (f : Facility) (fs : List Facility) (S : List ℕ) (at : ℕ) where
  -- An input.
  module _ (e : is_input f.kind ≡ true) where
    room_in : narrow_at S at (word_count f) (word_length f) ≡ true → at + facility_bytes f ≤ length S
    unfolding narrow_at
    room_in t = by-test (leb (at + word_count f * word_bytes (word_length f)) (length S)) refl t
      where
        by-test : (b : Bool) → leb (at + word_count f * word_bytes (word_length f)) (length S) ≡ b → cond b (all_narrow (word_length f) (words_from (word_count f) (word_length f) (drop at S))) false ≡ true → at + facility_bytes f ≤ length S
        by-test true l u = let g = leb-true _ _ l in rw (stored_bytes f (input-stored f.kind e)) g
        by-test false l u = absurd (true≢false (sym u))

    first-in : well_from (f ∷ fs) S at
        ≡ both (eqb (length S) (at + (facility_bytes f + store_size_of (inputs_of fs))))
        (both (all_narrow (word_length f) (facility_words f (drop at S))) (narrow (inputs_of fs) (from_bytes (inputs_of fs) (drop (facility_bytes f) (drop at S)))))
    unfolding well_from inputs_of store_size_of narrow from_bytes
    first-in = rw e refl

    more-in : narrow_at S at (word_count f) (word_length f) ≡ true → well_from (f ∷ fs) S at ≡ well_from fs S (at + facility_bytes f)
    unfolding well_from
    more-in t =
        let n = facility-narrow f S at (input-stored f.kind e) (room_in t) ∙ t in
        let a = add_assoc at (facility_bytes f) (store_size_of (inputs_of fs)) in
        first-in ∙ rw (n, drop-drop (facility_bytes f) at S, a) refl

    stop-in : narrow_at S at (word_count f) (word_length f) ≡ false → well_from (f ∷ fs) S at ≡ false
    stop-in t = first-in ∙ by-test (leb (at + facility_bytes f) (length S)) refl
      where
        rest : Bool
        rest = narrow (inputs_of fs) (from_bytes (inputs_of fs) (drop (facility_bytes f) (drop at S)))

        by-test : (b : Bool) → leb (at + facility_bytes f) (length S) ≡ b → both (eqb (length S) (at + (facility_bytes f + store_size_of (inputs_of fs)))) (both (all_narrow (word_length f) (facility_words f (drop at S))) rest) ≡ false
        by-test true l =
            rw (facility-narrow f S at (input-stored f.kind e) (leb-true (at + facility_bytes f) (length S) l) ∙ t) (both-none (eqb (length S) (at + (facility_bytes f + store_size_of (inputs_of fs)))))
        by-test false l =
            let g : length S < at + facility_bytes f = leb-false (at + facility_bytes f) (length S) l in
            rw (ne_eqb (length S) (at + (facility_bytes f + store_size_of (inputs_of fs))) (λ q. omega arith)) refl

  -- Any other.
  module _ (e : is_input f.kind ≡ false) where
    more-out : well_from (f ∷ fs) S at ≡ well_from fs S at
    unfolding well_from inputs_of
    more-out = rw e refl

  pub fits-room : at ≤ length S → fits_at S at f ≡ true → at + input_bytes f ≤ length S
  fits-room h t = by_kind (is_input f.kind) refl
    where
      by_kind : (b : Bool) → is_input f.kind ≡ b → at + input_bytes f ≤ length S
      by_kind true e = rw (input-whole f e) (room_in e (sym (fits-input S at f e) ∙ t))
      by_kind false e = let z = input-not f e in omega (arith, z, h)

  pub well-more : fits_at S at f ≡ true → well_from (f ∷ fs) S at ≡ well_from fs S (at + input_bytes f)
  well-more t = by_kind (is_input f.kind) refl
    where
      by_kind : (b : Bool) → is_input f.kind ≡ b → well_from (f ∷ fs) S at ≡ well_from fs S (at + input_bytes f)
      by_kind true e = more-in e (sym (fits-input S at f e) ∙ t) ∙ ap (λ (n : ℕ). well_from fs S (at + n)) (sym (input-whole f e))
      by_kind false e = let z : at ≡ at + input_bytes f = omega (arith, input-not f e) in more-out e ∙ ap (well_from fs S) z

  pub well-stop : fits_at S at f ≡ false → well_from (f ∷ fs) S at ≡ false
  well-stop t = by_kind (is_input f.kind) refl
    where
      by_kind : (b : Bool) → is_input f.kind ≡ b → well_from (f ∷ fs) S at ≡ false
      by_kind true e = stop-in e (sym (fits-input S at f e) ∙ t)
      by_kind false e = absurd (true≢false (sym (fits-other S at f e) ∙ t))

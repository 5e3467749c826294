-- A line's facilities, one after the other: what is printed and what is left give the whole. Assumes nothing.
use mathlib.Core.Bool.{Bool, true, false, true≢false}
use mathlib.Core.List.{List, [], ◌∷◌, ◌++◌, append_assoc, append-nil}
use mathlib.Core.Path.{◌≡◌, refl, sym, ap, ◌∙◌}
use Prim.Native.Nat.{ℕ, zero, suc, ◌+◌, ◌*◌, ◌≤◌, ◌<◌}
use native.Mathlib.Omega.{arith}
use borrow.Author.Tests.{leb-true, ne_eqb}
use lib.Dec.{leb}
use lib.ListN.{drop, drop_of_length-le, get_or, length}
use lib.Seq.{drop-drop}
use Rattle.language.specs.Description.{Description, Facility, facility_at, is_computed, no_facility, word_count, word_length}
use Rattle.language.specs.Layout.{facility_bytes, place_in, store_size_of, word_bytes}
use Rattle.language.specs.Scan.{bytes}
use Rattle.language.specs.Store.{facility_words, from_bytes, words_from}
use Rattle.language.specs.Trace.{bits, facilities_line, first_word, shown}
use Rattle.store_layout.specs.Layout.{word_in}
use Rattle.run_begin.proofs.SizeLaws.{stored_bytes}
use Rattle.run_begin.proofs.StimulusLaws.{facility-here}
use Rattle.trace_output.specs.Adds.{Adds}
use Rattle.trace_output.specs.Texts.{HasWord, facility_text, word_text}
use Rattle.trace_output.proofs.AddsLaws.{adds-as, adds-both, adds_none}
use Rattle.trace_output.proofs.TextLaws.{text-hidden, text-shown}

-- ---- A facility that is shown has one word in the store.

shown-stored : (f : Facility) → shown f ≡ true → is_computed f.kind ≡ false
shown-stored f e = go (is_computed f.kind) refl
  where
    go : (b : Bool) → is_computed f.kind ≡ b → is_computed f.kind ≡ false
    go true k = let z : shown f ≡ false = rw k refl in absurd (true≢false (sym e ∙ z))
    go false k = k

shown-small : (f : Facility) → shown f ≡ true → f.dimensions ≤ 1
shown-small f e =
    let z : shown f ≡ leb f.dimensions 1 = rw (shown-stored f e) refl in leb-true f.dimensions 1 (sym z ∙ e)

shown-one : (f : Facility) → shown f ≡ true → word_count f ≡ 1
unfolding word_count
shown-one f e = let h = shown-small f e in rw (ne_eqb f.dimensions 2 (λ q. omega (arith, q, h))) refl

shown-bytes : (f : Facility) → shown f ≡ true → facility_bytes f ≡ word_bytes (word_length f)
shown-bytes f e = stored_bytes f (shown-stored f e) ∙ (ap (λ (n : ℕ). n * word_bytes (word_length f)) (shown-one f e) ∙ omega arith)

first-word : (f : Facility) (B : List ℕ) (P : ℕ) → shown f ≡ true → first_word (facility_words f (drop P B)) ≡ word_in B P (word_length f)
unfolding word_in words_from
first-word f B P e = rw (shown-stored f e, shown-one f e) refl

-- ---- One facility more.

module _ (f : Facility) (fs : List Facility) (B : List ℕ) (P p : ℕ) (h : shown f ≡ true → p ≡ P) where
  abbrev rest : List ℕ
  rest = facilities_line fs (from_bytes fs (drop (facility_bytes f) (drop P B)))

  pub line-more : facility_text f p B ++ rest ≡ facilities_line (f ∷ fs) (from_bytes (f ∷ fs) (drop P B))
  unfolding facilities_line from_bytes word_text bytes
  line-more = go (shown f) refl
    where
      go : (b : Bool) → shown f ≡ b → facility_text f p B ++ rest ≡ facilities_line (f ∷ fs) (from_bytes (f ∷ fs) (drop P B))
      go true e =
          ap (λ (T : List ℕ). T ++ rest) (sym (text-shown f p B e))
          ∙ (ap (λ (T : List ℕ). 32 ∷ T) (append_assoc f.name ((61 ∷ []) ++ word_text f p B) rest)
          ∙ (ap (λ (x : ℕ). 32 ∷ (f.name ++ (61 ∷ (bits (word_length f) x ++ rest)))) (ap (λ (q : ℕ). word_in B q (word_length f)) (h e) ∙ sym (first-word f B P e)) ∙ rw e refl))
      go false e = ap (λ (T : List ℕ). T ++ rest) (sym (text-hidden f p B e)) ∙ rw e refl

-- ---- The loop.

place-first : (fs : List Facility) → place_in fs 0 ≡ 0
unfolding place_in
place-first [] = refl
place-first (f ∷ fs) = refl

place-next : (fs : List Facility) (n : ℕ) → n < length fs → place_in fs (suc n) ≡ place_in fs n + facility_bytes (get_or fs n no_facility)
unfolding place_in
place-next [] n h = absurd (omega arith)
place-next (f ∷ fs) zero h = let z = place-first fs in omega (arith, z)
place-next (f ∷ fs) (suc n) h = let i = place-next fs n (omega arith) in omega (arith, i)

first-inside : (fs : List Facility) (n : ℕ) → n < length fs → place_in fs n + facility_bytes (get_or fs n no_facility) ≤ store_size_of fs
unfolding place_in store_size_of
first-inside [] n h = absurd (omega arith)
first-inside (f ∷ fs) zero h = omega arith
first-inside (f ∷ fs) (suc n) h = let i = first-inside fs n (omega arith) in omega (arith, i)

-- A facility that is shown has its word in the store.
pub has_word : (d : Description) (B : List ℕ) (n : ℕ) (f : Facility) (p : ℕ) → n < length d.facilities → facility_at d n ≡ f → store_size_of d.facilities ≤ length B
    → (is_computed f.kind ≡ false → p ≡ place_in d.facilities n) → shown f ≡ true → HasWord f p B
unfolding facility_at
has_word d B n f p l e r q s =
    let i = first-inside d.facilities n l in
    let b : facility_bytes (get_or d.facilities n no_facility) ≡ word_bytes (word_length f) = ap facility_bytes e ∙ shown-bytes f s in
    omega (arith, i, b, r, q (shown-stored f s))

-- After n facilities, the text O from `at` to `end`.
pub record Printed (d : Description) (B O₀ : List ℕ) (at : ℕ) (O : List ℕ) (end n : ℕ) : Type 0 where
  pub front : List ℕ
  pub same : front ++ facilities_line (drop n d.facilities) (from_bytes (drop n d.facilities) (drop (place_in d.facilities n) B)) ≡ facilities_line d.facilities (from_bytes d.facilities B)
  pub adds : Adds front O₀ at O end

pub printed-first : (d : Description) (B O : List ℕ) (at : ℕ) → Printed d B O at O at 0
printed-first d B O at = record {
  front = [];
  same = ap (λ (p : ℕ). facilities_line d.facilities (from_bytes d.facilities (drop p B))) (place-first d.facilities);
  adds = adds_none O at;
}

pub printed-more : {d : Description} {B O₀ O O' : List ℕ} {at end end' n : ℕ} (f : Facility) (p : ℕ) → Printed d B O₀ at O end n → n < length d.facilities → facility_at d n ≡ f
    → (is_computed f.kind ≡ false → p ≡ place_in d.facilities n) → Adds (facility_text f p B) O end O' end' → Printed d B O₀ at O' end' (suc n)
unfolding facility_at
printed-more {d} {B} {O₀} {O} {O'} {at} {end} {end'} {n} f p x l e q a =
    let fs = d.facilities in
    let P : ℕ = place_in fs n in
    let T = facility_text f p B in
    let gs = drop (suc n) fs in
    let c : drop n fs ≡ f ∷ gs = facility-here d n f l e in
    let N : place_in fs (suc n) ≡ P + facility_bytes f = place-next fs n l ∙ ap (λ (g : Facility). P + facility_bytes g) e in
    record {
      front = x.front ++ T;
      same =
          append_assoc x.front T (facilities_line gs (from_bytes gs (drop (place_in fs (suc n)) B)))
          ∙ (ap (λ (C : List ℕ). x.front ++ (T ++ facilities_line gs (from_bytes gs C))) (ap (λ (m : ℕ). drop m B) N ∙ sym (drop-drop (facility_bytes f) P B))
          ∙ (ap (λ (U : List ℕ). x.front ++ U) (line-more f gs B P p (λ s. q (shown-stored f s)) ∙ ap (λ (hs : List Facility). facilities_line hs (from_bytes hs (drop P B))) (sym c)) ∙ x.same));
      adds = adds-both x.adds a;
    }

pub printed-all : {d : Description} {B O₀ O : List ℕ} {at end n : ℕ} → Printed d B O₀ at O end n → length d.facilities ≤ n → Adds (facilities_line d.facilities (from_bytes d.facilities B)) O₀ at O end
unfolding facilities_line
printed-all {d} {B} {O₀} {O} {at} {end} {n} x h =
    adds-as x.adds (sym (append-nil x.front) ∙ (ap (λ (gs : List Facility). x.front ++ facilities_line gs (from_bytes gs (drop (place_in d.facilities n) B))) (sym (drop_of_length-le d.facilities h)) ∙ x.same))

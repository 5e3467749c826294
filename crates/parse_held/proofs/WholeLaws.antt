-- The image of what the array holds: header, records and names, where there is room for them.
use mathlib.Core.List.{List, [], ◌++◌, append_assoc}
use mathlib.Core.Path.{◌≡◌, refl, sym, ap, ◌∙◌}
use Prim.Native.Nat.{ℕ, ◌+◌, ◌<◌, ◌≤◌}
use native.Mathlib.Omega.{arith}
use borrow.Author.Tests.{le-leb, lt-leb}
use lib.ListN.{length, length-append, replicate}
use Rattle.image_sections.proofs.HeaderLaws.{header-bytes}
use Rattle.image_sections.proofs.ImageLaws.{Sized, image-header}
use Rattle.image_sections.specs.declared.header.Counts.{Counts}
use Rattle.image_sections.specs.Header.{header_numbers, names_from}
use Rattle.language.specs.Encode.{image_of}
use Rattle.language.specs.Reading.{filled, with_room}
use Rattle.language.specs.RecordBytes.{fours}
use Rattle.image_records.specs.Placed.{placed}
use Rattle.language.specs.declared.refusals.Refusal.TheVariants.{BufferTooShort}
use Rattle.parse_tables.specs.declared.Table.TheVariants as T
use Rattle.parse_array.specs.Layout.{work_size}
use Rattle.parse_held.proofs.BodyLaws.{node-length, records-length, row-length}
use Rattle.image_records.proofs.FilledLaws.{filled-length, filled_more, filled_none}
use Rattle.parse_held.specs.declared.Holding.{Holding}
use Rattle.std.specs.Prelude.{Err, Ok}
use Rattle.call_answers.specs.Reading.{called}
use Rattle.parse_held.specs.Sections.{Few, counts_held, letters_of, names_held, records_held, sections_held}

-- ---- Names.

module _ (text w : List ℕ) (c : Holding) where
  names-length : length (names_held text w c)
      ≡ length (letters_of text T.FacilityNames c.facilities w) + (length (letters_of text T.OperationNames c.operations w) + length (letters_of text T.Labels c.states w))
  unfolding names_held
  names-length = simp length-append

  pub names-counted : {f o s : ℕ} → f ≡ length (letters_of text T.FacilityNames c.facilities w) → o ≡ length (letters_of text T.OperationNames c.operations w)
      → s ≡ length (letters_of text T.Labels c.states w) → f + (o + s) ≡ length (names_held text w c)
  names-counted e f g = rw (e, f, g) (sym names-length)

  pub names-put : (p : List ℕ) {i₀ i₁ i₂ i₃ : List ℕ} {at o s : ℕ} → length p ≡ at → i₀ ≡ filled (length i₀) p → at + length (names_held text w c) ≤ length i₀
      → o ≡ at + length (letters_of text T.FacilityNames c.facilities w)
      → (at + length (letters_of text T.FacilityNames c.facilities w) ≤ length i₀ → i₁ ≡ placed i₀ at (letters_of text T.FacilityNames c.facilities w))
      → s ≡ o + length (letters_of text T.OperationNames c.operations w)
      → (o + length (letters_of text T.OperationNames c.operations w) ≤ length i₁ → i₂ ≡ placed i₁ o (letters_of text T.OperationNames c.operations w))
      → (s + length (letters_of text T.Labels c.states w) ≤ length i₂ → i₃ ≡ placed i₂ s (letters_of text T.Labels c.states w))
      → i₃ ≡ filled (length i₀) (p ++ names_held text w c)
  unfolding names_held
  names-put p {i₀} {i₁} {i₂} {i₃} {at} {o} {s} k z h e₁ p₁ e₂ p₂ p₃ =
      let n = length i₀ in
      let fs = letters_of text T.FacilityNames c.facilities w in
      let os = letters_of text T.OperationNames c.operations w in
      let ss = letters_of text T.Labels c.states w in
      let m = names-length in
      let q₁ = filled_more n p fs k z (omega arith) refl (p₁ (omega arith)) in
      let k₁ : length (p ++ fs) ≡ o = length-append p fs ∙ omega arith in
      let l₁ : length i₁ ≡ n = ap length q₁ ∙ filled-length n (p ++ fs) (omega arith) in
      let q₂ = filled_more n (p ++ fs) os k₁ q₁ (omega arith) refl (p₂ (omega arith)) in
      let k₂ : length (p ++ fs ++ os) ≡ s = length-append (p ++ fs) os ∙ omega arith in
      let l₂ : length i₂ ≡ n = ap length q₂ ∙ filled-length n (p ++ fs ++ os) (omega arith) in
      filled_more n (p ++ fs ++ os) ss k₂ q₂ (omega arith) refl (p₃ (omega arith)) ∙ ap (filled n) (simp append_assoc)

-- ---- The whole.

module _ (text w : List ℕ) (c : Holding) (l : length w ≡ work_size) (few : Few c) where
  abbrev counted : Counts
  counted = counts_held c (length (names_held text w c))

  sized : Sized (sections_held text w c) counted
  unfolding sections_held
  sized = record {
    facilities = row-length T.Facilities c.facilities w l few.facilities;
    operations = row-length T.Operations c.operations w l few.operations;
    expressions = node-length c.nodes w l few.nodes;
    actions = row-length T.Actions c.actions w l few.actions;
    states = row-length T.States c.states w l few.states;
    names = refl;
  }

  whole : image_of (sections_held text w c) ≡ fours (header_numbers counted) ++ records_held w c ++ names_held text w c
  unfolding sections_held records_held
  whole = image-header (sections_held text w c) counted sized ∙ simp append_assoc

  whole_length : length (image_of (sections_held text w c)) ≡ names_from (counts_held c 0) + length (names_held text w c)
  whole_length =
      let h = fours (header_numbers counted) in
      let a = length-append h (records_held w c) in
      let b = length-append (h ++ records_held w c) (names_held text w c) in
      ap length whole ∙ omega (arith, a, b, header-bytes counted, records-length w c l few)

  module _ {n from : ℕ} {i₁ : List ℕ} (i₀ : List ℕ) (e : n ≡ length (names_held text w c)) (f : from ≡ names_from (counts_held c 0)) (z : i₁ ≡ replicate (length i₀) 0) where
    pub no_room : length i₁ < from + n → called (Err (record { refusal = BufferTooShort; place = 0 })) i₁ ≡ with_room (length i₀) (image_of (sections_held text w c))
    no_room h =
        let m : length i₁ ≡ length i₀ = ap length (z ∙ filled_none (length i₀)) ∙ filled-length (length i₀) [] (omega arith) in
        rw (lt-leb (length (image_of (sections_held text w c))) (length i₀) (omega (arith, whole_length)), z)

    pub room : {i₂ i₃ i₄ : List ℕ} {k : Counts} → from + n ≤ length i₁ → k ≡ counts_held c n → i₂ ≡ placed i₁ 0 (fours (header_numbers k))
        → ((p : List ℕ) → length w ≡ work_size → Few c → length p ≡ 52 → i₂ ≡ filled (length i₂) p → names_from (counts_held c 0) ≤ length i₂ → i₃ ≡ filled (length i₂) (p ++ records_held w c))
        → ((p : List ℕ) → length p ≡ from → i₃ ≡ filled (length i₃) p → from + length (names_held text w c) ≤ length i₃ → i₄ ≡ filled (length i₃) (p ++ names_held text w c))
        → called (Ok (from + n)) i₄ ≡ with_room (length i₀) (image_of (sections_held text w c))
    room {i₂} {i₃} {i₄} h g a b d =
        let m = length i₀ in
        let head = fours (header_numbers counted) in
        let k = header-bytes counted in
        let r = records-length w c l few in
        let l₁ : length i₁ ≡ m = ap length (z ∙ filled_none m) ∙ filled-length m [] (omega arith) in
        let q₂ : i₂ ≡ filled m head = filled_more m [] head refl (z ∙ filled_none m) (omega arith) (rw (g, e)) a in
        let l₂ : length i₂ ≡ m = ap length q₂ ∙ filled-length m head (omega arith) in
        let q₃ : i₃ ≡ filled m (head ++ records_held w c) = rw l₂ at (b head l few k (rw l₂ q₂) (omega arith)) in
        let k₃ : length (head ++ records_held w c) ≡ from = length-append head (records_held w c) ∙ omega arith in
        let l₃ : length i₃ ≡ m = ap length q₃ ∙ filled-length m (head ++ records_held w c) (omega arith) in
        let q₄ : i₄ ≡ filled m (head ++ records_held w c ++ names_held text w c) = rw l₃ at (d (head ++ records_held w c) k₃ (rw l₃ q₃) (omega arith)) in
        let t : from + n ≡ length (image_of (sections_held text w c)) = omega (arith, whole_length) in
        rw (le-leb (length (image_of (sections_held text w c))) m (omega arith), t, q₄, ← whole)

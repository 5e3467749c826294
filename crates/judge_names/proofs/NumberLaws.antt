-- Lengths and places by number, in lists joined from three sections.
use mathlib.Core.List.{List, ◌++◌}
use mathlib.Core.Path.{◌≡◌, refl, sym, ap, ◌∙◌}
use native.Mathlib.Nat.{mul-suc}
use native.Mathlib.Omega.{arith}
use Prim.Native.Nat.{ℕ, zero, suc, ◌+◌, ◌-◌, ◌*◌, ◌/◌, ◌<◌, ◌≤◌}
use lib.ListN.{get_or-append, get_or-eq_default, drop, drop_of_length-le, get_or, length, length-append}
use lib.Seq.{get_or-append-add}
use Rattle.image_sections.proofs.DescribedLaws.{up-to-length}
use Rattle.language.specs.Decode.{up_to}
use Rattle.language.specs.Description.{nowhere}
use Rattle.language.specs.Words.{Position}
use Rattle.judge_records.proofs.NotedLaws.{up_to_pick}
use Rattle.judge_records.specs.Noted.{place_no}
use Rattle.judge_records.specs.Read.{place_of}
use Rattle.judge_names.specs.Numbered.{lengths_at, lengths_of, places_of}
use Rattle.language.specs.Encode.{facility_size, operation_size, state_size}

-- ---- An entry of the first list, and one after it.

module _ {A : Type 0} (xs ys : List A) (n k : ℕ) (d : A) (e : length xs ≡ n) where
  first-at : k < n → get_or (xs ++ ys) k d ≡ get_or xs k d
  first-at h = get_or-append xs ys d k (omega arith)

  later-at : n ≤ k → get_or (xs ++ ys) k d ≡ get_or ys (k - n) d
  later-at h = let z : k ≡ length xs + (k - n) = omega arith in ap (λ (i : ℕ). get_or (xs ++ ys) i d) z ∙ get_or-append-add xs ys (k - n) d

-- ---- Lengths.

lengths-count : (k at size : ℕ) (s : List ℕ) → length (lengths_at k at size s) ≡ k
unfolding lengths_at
lengths-count zero at size s = refl
lengths-count (suc k) at size s = ap suc (lengths-count k (at + size) size s)

lengths-at : (k at size : ℕ) (s : List ℕ) (n : ℕ) → n < k → get_or (lengths_at k at size s) n 0 ≡ get_or s (at + size * n) 0
unfolding lengths_at
lengths-at zero at size s n h = absurd (omega arith)
lengths-at (suc k) at size s zero h = let e : at + size * 0 ≡ at = omega arith in rw e
lengths-at (suc k) at size s (suc n) h =
    let e : at + size * suc n ≡ at + size + size * n = omega (arith, mul-suc size n) in
    rw e (lengths-at k (at + size) size s n (omega arith))

module _ (fs os ss : List ℕ) where
  abbrev F : ℕ
  F = length fs / facility_size

  abbrev O : ℕ
  O = length os / operation_size

  abbrev S : ℕ
  S = length ss / state_size

  abbrev first : List ℕ
  first = lengths_at F 2 facility_size fs

  abbrev second : List ℕ
  second = lengths_at O 0 operation_size os

  abbrev third : List ℕ
  third = lengths_at S 0 state_size ss

  pub count_of : F + O + S ≡ length (lengths_of fs os ss)
  unfolding lengths_of
  count_of =
      omega (
        arith,
        length-append first (second ++ third),
        length-append second third,
        lengths-count F 2 facility_size fs,
        lengths-count O 0 operation_size os,
        lengths-count S 0 state_size ss,
      )

  module _ (k : ℕ) where
    pub facility-length : k < F → get_or fs (facility_size * k + 2) 0 ≡ get_or (lengths_of fs os ss) k 0
    unfolding lengths_of
    facility-length h =
        let z : facility_size * k + 2 ≡ 2 + facility_size * k = omega arith in
        rw z (sym (first-at first (second ++ third) F k 0 (lengths-count F 2 facility_size fs) h ∙ lengths-at F 2 facility_size fs k h))

    module _ (h : F ≤ k) where
      past-facilities : get_or (lengths_of fs os ss) k 0 ≡ get_or (second ++ third) (k - F) 0
      unfolding lengths_of
      past-facilities = later-at first (second ++ third) F k 0 (lengths-count F 2 facility_size fs) h

      pub operation-length : k - F < O → get_or os (operation_size * (k - F)) 0 ≡ get_or (lengths_of fs os ss) k 0
      operation-length g =
          let z : operation_size * (k - F) ≡ 0 + operation_size * (k - F) = omega arith in
          rw z (sym (past-facilities ∙ first-at second third O (k - F) 0 (lengths-count O 0 operation_size os) g ∙ lengths-at O 0 operation_size os (k - F) g))

      module _ (g : O ≤ k - F) where
        past-operations : get_or (lengths_of fs os ss) k 0 ≡ get_or third (k - F - O) 0
        past-operations = past-facilities ∙ later-at second third O (k - F) 0 (lengths-count O 0 operation_size os) g

        pub state-length : k - F - O < S → get_or ss (state_size * (k - F - O)) 0 ≡ get_or (lengths_of fs os ss) k 0
        state-length l =
            let z : state_size * (k - F - O) ≡ 0 + state_size * (k - F - O) = omega arith in
            rw z (sym (past-operations ∙ lengths-at S 0 state_size ss (k - F - O) l))

        pub no_length : S ≤ k - F - O → 0 ≡ get_or (lengths_of fs os ss) k 0
        no_length l = sym (past-operations ∙ get_or-eq_default third 0 (omega (arith, lengths-count S 0 state_size ss)))

-- ---- Places.

module _ (fp op sp : List ℕ) where
  abbrev Fp : ℕ
  Fp = length fp / 12

  abbrev Op : ℕ
  Op = length op / 2

  abbrev Sp : ℕ
  Sp = length sp / 4

  abbrev first-places : List Position
  first-places = up_to (λ n. place_no fp (6 * n)) 0 Fp

  abbrev second-places : List Position
  second-places = up_to (place_no op) 0 Op

  abbrev third-places : List Position
  third-places = up_to (λ n. place_no sp (2 * n)) 0 Sp

  module _ (k : ℕ) where
    pub facility-place : k < Fp → place_of 6 fp k 0 ≡ get_or (places_of fp op sp) k nowhere
    unfolding places_of place_of
    facility-place h =
        let z : 0 + k ≡ k = omega arith in
        let y : 6 * k + 0 ≡ 6 * k = omega arith in
        sym (first-at first-places (second-places ++ third-places) Fp k nowhere (up-to-length _ 0 Fp) h
        ∙ up_to_pick (λ n. place_no fp (6 * n)) nowhere 0 Fp k ∙ rw (z, y))

    module _ (h : Fp ≤ k) where
      past_first : get_or (places_of fp op sp) k nowhere ≡ get_or (second-places ++ third-places) (k - Fp) nowhere
      unfolding places_of
      past_first = later-at first-places (second-places ++ third-places) Fp k nowhere (up-to-length _ 0 Fp) h

      pub operation-place : k - Fp < Op → place_of 1 op (k - Fp) 0 ≡ get_or (places_of fp op sp) k nowhere
      unfolding place_of
      operation-place g =
          let z : 0 + (k - Fp) ≡ 1 * (k - Fp) + 0 = omega arith in
          sym (past_first ∙ first-at second-places third-places Op (k - Fp) nowhere (up-to-length _ 0 Op) g
          ∙ up_to_pick (place_no op) nowhere 0 Op (k - Fp) ∙ rw z)

      pub state-place : Op ≤ k - Fp → place_of 2 sp (k - Fp - Op) 0 ≡ get_or (places_of fp op sp) k nowhere
      unfolding place_of
      state-place g =
          let z : 0 + (k - Fp - Op) ≡ k - Fp - Op = omega arith in
          let y : 2 * (k - Fp - Op) + 0 ≡ 2 * (k - Fp - Op) = omega arith in
          sym (past_first ∙ later-at second-places third-places Op (k - Fp) nowhere (up-to-length _ 0 Op) g
          ∙ up_to_pick (λ n. place_no sp (2 * n)) nowhere 0 Sp (k - Fp - Op) ∙ rw (z, y))

-- ---- Past the end of all names.

pub end_of : (ns : List ℕ) (offset n : ℕ) → length ns - offset < n → offset ≤ length ns → drop (length ns) ns ≡ drop (offset + n) ns
end_of ns offset n h g =
    let a : length ns ≤ length ns = omega arith in
    let b : length ns ≤ offset + n = omega arith in
    drop_of_length-le ns a ∙ sym (drop_of_length-le ns b)

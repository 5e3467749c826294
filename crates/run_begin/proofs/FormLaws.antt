-- Stimuli one after the other: what is left to test says the same as the whole. Assumes nothing.
use mathlib.Core.Bool.{Bool, true, false, true≢false}
use mathlib.Core.List.{List}
use mathlib.Core.Path.{◌≡◌, refl, sym, ap, ◌∙◌}
use Prim.Native.Nat.{ℕ, suc, ◌+◌, ◌-◌, ◌*◌, ◌/◌, ◌≤◌, ◌<◌}
use native.Mathlib.Nat.{mul_comm, mul-div_cancel}
use native.Mathlib.Omega.{arith}
use borrow.Author.Tests.{eq-eqb, eqb-false, eqb-true, ne_eqb}
use lib.Dec.{eqb}
use lib.ListN.{drop, length, length-drop, take}
use lib.Seq.{drop-drop, length-take-le}
use Rattle.language.specs.Calls.{all_well_formed, stimulus_size, well_formed}
use Rattle.language.specs.Description.{Description}
use Rattle.about_bytes.specs.ManyCycles.{all_first, all-long, first-there, one-long}

-- All cycles have as many bytes.
pub shared : (n k m : ℕ) → 0 < k → n ≡ k * m → n / k ≡ m
shared n k m h e = ap (λ (x : ℕ). x / k) (e ∙ mul_comm k m) ∙ mul-div_cancel m h

module _ (d : Description) where
  -- No cycle is left.
  pub none_left : (S : List ℕ) (at : ℕ) → at ≤ length S → all_well_formed d 0 (drop at S) ≡ eqb (length S) at
  unfolding all_well_formed
  none_left S at h = by-test (eqb (length S) at) refl
    where
      by-test : (b : Bool) → eqb (length S) at ≡ b → eqb (length (drop at S)) 0 ≡ b
      by-test true e = let m = eqb-true (length S) at e in let l = length-drop at S in eq-eqb (length (drop at S)) 0 (omega (arith, l, m))
      by-test false e = let m = eqb-false (length S) at e in let l = length-drop at S in ne_eqb (length (drop at S)) 0 (λ z. m (omega (arith, l, z, h)))

  -- n of them were tested, and the next begins at a byte of its own.
  module _ (S : List ℕ) (count each n at : ℕ) (shared : (m : ℕ) → 0 < count → length S ≡ count * m → each ≡ m) (h : n < count) (same : all_well_formed d (count - n) (drop at S) ≡ all_well_formed d count S) where
    next : count - n ≡ suc (count - (n + 1))
    next = omega arith

    true-next : all_well_formed d count S ≡ true → all_well_formed d (suc (count - (n + 1))) (drop at S) ≡ true
    true-next e = rw next at (same ∙ e)

    each-so : all_well_formed d count S ≡ true → each ≡ stimulus_size d
    each-so e = shared (stimulus_size d) (omega arith) (all-long d count S e)

    pub none-there : length S - at < each → false ≡ all_well_formed d count S
    none-there t = by-test (all_well_formed d count S) refl
      where
        by-test : (b : Bool) → all_well_formed d count S ≡ b → false ≡ b
        by-test true e = let r = first-there d (drop at S) (all_first d (count - (n + 1)) (drop at S) (true-next e)) in let s = each-so e in let l = length-drop at S in absurd (omega (arith, r, s, l, t))
        by-test false e = refl

    pub ill-formed : well_formed d (take each (drop at S)) ≡ false → false ≡ all_well_formed d count S
    ill-formed t = by-test (all_well_formed d count S) refl
      where
        by-test : (b : Bool) → all_well_formed d count S ≡ b → false ≡ b
        by-test true e = absurd (true≢false (sym (all_first d (count - (n + 1)) (drop at S) (true-next e)) ∙ (ap (λ (m : ℕ). well_formed d (take m (drop at S))) (sym (each-so e)) ∙ t)))
        by-test false e = refl

    pub one_more : each ≤ length S - at → well_formed d (take each (drop at S)) ≡ true → all_well_formed d (count - (n + 1)) (drop (at + each) S) ≡ all_well_formed d count S
    unfolding all_well_formed
    one_more g w =
        let l = length-drop at S in
        let e : each ≡ stimulus_size d = sym (length-take-le each (drop at S) (omega (arith, l, g))) ∙ one-long d (take each (drop at S)) w in
        let f = rw e at w in
        let u : all_well_formed d (suc (count - (n + 1))) (drop at S) ≡ all_well_formed d (count - (n + 1)) (drop (stimulus_size d) (drop at S)) = rw f refl in
        let v : drop (stimulus_size d) (drop at S) ≡ drop (at + each) S = ap (λ (m : ℕ). drop m (drop at S)) (sym e) ∙ drop-drop each at S in
        ap (all_well_formed d (count - (n + 1))) (sym v) ∙ (sym u ∙ (ap (λ (k : ℕ). all_well_formed d k (drop at S)) (sym next) ∙ same))

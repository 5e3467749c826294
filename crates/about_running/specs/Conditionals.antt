-- A conditional with an arm for each value of its condition: every value has its arm, and where there are two the condition has one bit. Assumes nothing.
use Rattle.std.specs.Prelude.{Bool, true, false, cond, ◌≡◌, refl, ℕ, zero, suc, ◌+◌, ◌*◌, ◌^◌, ◌≤◌, ◌<◌, eqb, leb, ltb}
use Rattle.std.proofs.Math.Option.{none, some}
use Rattle.std.proofs.Common.{sym, ◌∙◌, arith, eq-eqb, eqb-true, lt-ltb, pow-add, pow_pos}
use Rattle.std.proofs.lemmas.Bool.{eqb-false}
use Rattle.language.specs.Expressions.{longest_selector, selects}
use Rattle.language.specs.Meaning.{arm_number, decides}
use Rattle.language.specs.Value.{Value}
use Rattle.about_running.specs.LegalForm.{right_of}

pub selected : (c m : ℕ) → selects c m ≡ true → m ≡ 2 ^ c
unfolding selects
selected c m h = eqb-true m (2 ^ c) (right_of (leb c longest_selector) (eqb m (2 ^ c)) h)

pub arm-number : (m v : ℕ) → 0 < m → v < m → (k : ℕ) × (arm_number m v ≡ some k) × (0 < k) × (k ≤ m)
unfolding arm_number
arm-number m v h l = go (eqb v 0) refl
  where
    go : (t : Bool) → eqb v 0 ≡ t → (k : ℕ) × (cond t (some m) (cond (ltb v m) (some v) none) ≡ some k) × (0 < k) × (k ≤ m)
    go true e = (m, refl, h, omega arith)
    go false e = let z : v ≡ 0 → ⊥ = eqb-false v 0 e in (v, rw (lt-ltb v m l), omega arith, omega arith)

pub decided : (n l : ℕ) (v : Value) → v.length ≡ l → n ≡ 2 ^ l → decides n v ≡ true
unfolding decides
decided n l v e q = go (eqb n 2) refl
  where
    one_bit : (l : ℕ) → 2 ^ l ≡ 2 → l ≡ 1
    one_bit zero h = absurd (omega (arith, h))
    one_bit (suc zero) h = refl
    one_bit (suc (suc k)) h = absurd (let z : 2 ^ (2 + k) ≡ 4 * 2 ^ k = pow-add 2 2 k in omega (arith, h, z, pow_pos k))

    go : (b : Bool) → eqb n 2 ≡ b → cond b (eqb v.length 1) true ≡ true
    go true k = eq-eqb v.length 1 (e ∙ one_bit l (sym q ∙ eqb-true n 2 k))
    go false k = refl

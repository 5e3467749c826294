-- The state that is looked up by a value bears it, and where none is found none does. Assumes nothing.
use Rattle.std.specs.Prelude.{Bool}
use Rattle.std.proofs.Math.Bool.{true, false, cond}
use Rattle.std.proofs.Math.Option.{Option, none, some}
use Rattle.std.proofs.Math.Path.{◌≡◌, refl}
use native.Mathlib.Omega.{arith}
use Prim.Native.Nat.{ℕ, zero, suc, ◌+◌, ◌≤◌, ◌<◌}
use borrow.Author.Tests.{eqb-false, eqb-true}
use Rattle.std.proofs.Math.Dec.{eqb}
use Rattle.language.specs.Description.{Description}
use Rattle.language.specs.Step.{bearer, bears, state_number}

module _ (d : Description) where
  -- Where none is found, no state looked at bears the value.
  pub none-bears : (k n x : ℕ) → bearer d k n x ≡ none → (m : ℕ) → n ≤ m → m < n + k → state_number d m ≡ some x → ⊥
  unfolding bearer
  none-bears zero n x e m l h q = omega arith
  none-bears (suc k) n x e m l h q = go (λ z. none-bears k (suc n) x z m) (bears d (state_number d n) x) refl e (eqb m n) refl
    where
      go : (bearer d k (suc n) x ≡ none → suc n ≤ m → m < suc n + k → state_number d m ≡ some x → ⊥)
          → (b : Bool) → bears d (state_number d n) x ≡ b → cond b (some n) (bearer d k (suc n) x) ≡ none → (t : Bool) → eqb m n ≡ t → ⊥
      go ih true y z t w = let a : ◌≡◌ {A = ℕ} 0 1 = cc in omega arith
      go ih false y z true w =
          let s : state_number d n ≡ some x = rw (← eqb-true m n w) q in
          let a : eqb x x ≡ false = rw s at y in
          eqb-false x x a refl
      go ih false y z false w = ih z (omega (arith, eqb-false m n w)) (omega arith) q

  -- One that is found is one of those looked at, and bears it.
  pub one-bears : (k n x m : ℕ) → bearer d k n x ≡ some m → (m < n + k) × (state_number d m ≡ some x)
  unfolding bearer
  one-bears zero n x m e = absurd (let z : ◌≡◌ {A = ℕ} 0 1 = cc in omega arith)
  one-bears (suc k) n x m e = go (one-bears k (suc n) x m) (state_number d n) refl e
    where
      go : (bearer d k (suc n) x ≡ some m → (m < suc n + k) × (state_number d m ≡ some x))
          → (s : Option ℕ) → state_number d n ≡ s → cond (bears d s x) (some n) (bearer d k (suc n) x) ≡ some m → (m < n + suc k) × (state_number d m ≡ some x)
      go ih none y z = let a = ih z in (omega (arith, a.0), a.1)
      go ih (some v) y z = by (eqb x v) refl z
        where
          by : (b : Bool) → eqb x v ≡ b → cond b (some n) (bearer d k (suc n) x) ≡ some m → (m < n + suc k) × (state_number d m ≡ some x)
          by true q w = let a : n ≡ m = cc in (omega arith, rw (← a, eqb-true x v q) y)
          by false q w = let a = ih w in (omega (arith, a.0), a.1)

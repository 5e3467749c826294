-- A test that decides a condition: where it passes the condition holds, and where it fails it does not. Assumes nothing.
use Rattle.std.specs.Prelude.{Bool, true, false, ◌||◌, ◌≡◌, refl, ℕ, ◌≤◌, eqb, leb}
use Rattle.std.proofs.Common.{arith, eqb-true, leb-false, leb-true}
use Rattle.std.proofs.lemmas.Bool.{eqb-false}
use Rattle.language.specs.Tests.{both}

pub record Decides (b : Bool) (P : Type 0) : Type 0 where
  pub holds : b ≡ true → P
  pub fails : b ≡ false → P → ⊥

pub at_least : (m n : ℕ) → Decides (leb m n) (m ≤ n)
at_least m n = record { holds = λ e. leb-true m n e; fails = λ e h. omega (arith, leb-false m n e) }

pub equals : (m n : ℕ) → Decides (eqb m n) (m ≡ n)
equals m n = record { holds = λ e. eqb-true m n e; fails = λ e h. eqb-false m n e h }

pub itself : (b : Bool) → Decides b (b ≡ true)
itself b = record { holds = λ e. e; fails = λ e h. absurd (let z : ◌≡◌ {A = ℕ} 0 1 = cc in omega arith) }

pub either : {P Q R : Type 0} {a b : Bool} → Decides a P → Decides b Q → (P → R) → (Q → R) → ((P → ⊥) → (Q → ⊥) → R → ⊥) → Decides (a || b) R
either {P} {Q} {R} {a} {b} f g p q r = record { holds = go a b f.holds g.holds; fails = ho a b f.fails g.fails }
  where
    go : (a b : Bool) → (a ≡ true → P) → (b ≡ true → Q) → a || b ≡ true → R
    go true b f g e = p (f refl)
    go false b f g e = q (g e)

    ho : (a b : Bool) → (a ≡ false → P → ⊥) → (b ≡ false → Q → ⊥) → a || b ≡ false → R → ⊥
    ho true b f g e h = absurd (let z : ◌≡◌ {A = ℕ} 0 1 = cc in omega arith)
    ho false b f g e h = r (f refl) (g e) h

pub and_then : {P Q R : Type 0} {a b : Bool} → Decides a P → Decides b Q → (P → Q → R) → (R → P × Q) → Decides (both a b) R
and_then {P} {Q} {R} {a} {b} f g p q = record { holds = go a b f.holds g.holds; fails = ho a b f.fails g.fails }
  where
    go : (a b : Bool) → (a ≡ true → P) → (b ≡ true → Q) → both a b ≡ true → R
    go true b f g e = p (f refl) (g e)
    go false b f g e = absurd (let z : ◌≡◌ {A = ℕ} 0 1 = cc in omega arith)

    ho : (a b : Bool) → (a ≡ false → P → ⊥) → (b ≡ false → Q → ⊥) → both a b ≡ false → R → ⊥
    ho true b f g e h = g e (q h).1
    ho false b f g e h = f refl (q h).0

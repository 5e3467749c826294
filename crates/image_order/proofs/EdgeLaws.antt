-- Edges as numbers.
use mathlib.Core.Option.{none, some}
use mathlib.Core.Path.{◌≡◌, refl}
use Prim.Native.Nat.{ℕ, zero, suc, ◌+◌, ◌-◌}
use native.Mathlib.Numerals.{add-one}
use native.Mathlib.Omega.{arith}
use borrow.Author.Tests.{eq-eqb, ne_eqb}
use Rattle.language.specs.Description.{Run}
use Rattle.image_order.specs.Edges.{edge, run_end}

pub edge-some : (n : ℕ) → edge (n + 1) ≡ some n
edge-some n = rw (add-one n)

pub edge_at : (e : ℕ) → (e ≡ 0 → ⊥) → edge e ≡ some (e - 1)
edge_at zero h = absurd (h refl)
edge_at (suc n) h = let k : suc n - 1 ≡ n = omega arith in rw k

-- ---- A run more.

pub run-elsewhere : (at : ℕ) (r : Run) → (r.first + 1 ≡ at → ⊥) → none ≡ run_end (edge at) r
run-elsewhere zero r h = refl
run-elsewhere (suc n) r h = rw (ne_eqb r.first n (λ e. h (omega arith)))

pub run-here : (at : ℕ) (r : Run) → r.first + 1 ≡ at → edge (r.first + 1 + r.count) ≡ run_end (edge at) r
run-here at r h =
    let e : r.first + 1 + r.count ≡ r.first + r.count + 1 = omega arith in
    rw (← h, edge-some r.first, eq-eqb r.first r.first refl, e, edge-some (r.first + r.count))

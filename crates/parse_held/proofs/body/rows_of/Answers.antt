use mathlib.Core.Path.{ap₂, ◌∙◌}
use Prim.Native.Nat.{ℕ, ◌*◌}
use native.Mathlib.Nat.{mul-le-mul}
use native.Mathlib.Omega.{arith}
use lib.ListN.{drop, take}
use Rattle.parse_tables.specs.Rows.{rows}
use Rattle.parse_held.proofs.body.rows_of.Goals as goal

pub overflow_mul-bytes_of : goal.overflow_mul-bytes_of
overflow_mul-bytes_of c =
    let p = mul-le-mul {n₁ = c.bytes_of.result} {m₁ = c.args.n} {n₂ = 13} {m₂ = 65536} c.bytes_of.ensures.1 (omega arith) in omega (arith, p)

pub returns : goal.returns
unfolding rows
returns c =
    c.part.ensures ∙ ap₂ (λ (a b : ℕ). take (a * c.args.n) (drop b c.args.work.now)) c.bytes_of.ensures.0 c.begin.ensures.0

use borrow.Author.Rules.{rules}
use native.Mathlib.Nat.{mul-le-mul}
use native.Mathlib.Omega.{arith}
use Rattle.parse_tables.proofs.RowLaws.{row_written}
use Rattle.parse_tables.proofs.rows.write.Goals as goal

pub overflow_mul-at : goal.overflow_mul-at
overflow_mul-at c =
    let p = mul-le-mul {n₁ = c.bytes_of.result} {m₁ = c.args.n} {n₂ = 13} {m₂ = 65536} c.bytes_of.ensures.1 (omega arith) in
    omega (arith, p)

pub overflow_add-at : goal.overflow_add-at
overflow_add-at c =
    let p = mul-le-mul {n₁ = c.bytes_of.result} {m₁ = c.args.n} {n₂ = 13} {m₂ = 65536} c.bytes_of.ensures.1 (omega arith) in
    omega (arith, p, c.begin.ensures.1)

pub returns : goal.returns
returns c =
    λ b h. row_written c.args.table c.args.n (search rules) b h c.begin.ensures.0 c.bytes_of.ensures.0 c.put.ensures

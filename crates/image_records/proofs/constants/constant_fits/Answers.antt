use mathlib.Core.Path.{ap₂, ◌∙◌}
use Prim.Native.Nat.{◌+◌, ◌*◌, ◌/◌, ◌%◌, ◌^◌}
use native.Mathlib.Nat.{one-mul}
use native.Mathlib.Omega.{arith}
use lib.Dec.{ltb}
use lib.ListN.{get_or}
use lib.Pow.{shl_exact}
use Rattle.image_records.proofs.ConstantLaws.{constant-ends, constant-fit, marked-within}
use Rattle.language.specs.Encode.{node_size}
use Rattle.image_records.proofs.constants.constant_fits.Goals as goal

pub returns-then-exprs-n : goal.returns-then-exprs-n
returns-then-exprs-n c =
    λ v e. absurd (omega (arith, (constant-ends c.args.exprs.now c.args.n v e).whole, c.if-exprs-n.true))

pub overflow_cast-more : goal.overflow_cast-more
overflow_cast-more c =
    omega (arith, c.shared_slice_known-2-1.given (node_size * c.args.n + 1))

pub returns-then-n-more : goal.returns-then-n-more
returns-then-n-more c =
    let s = c.args.exprs.now in
    let n = c.args.n in
    λ v e. absurd (omega (arith, marked-within (get_or s (node_size * n + 1) 0 / 48) n s (constant-ends s n v e).marked, c.if-n-more.true))

pub returns : goal.returns
returns c =
    let s = c.args.exprs.now in
    let n = c.args.n in
    λ v e.
    ap₂ ltb c.six_there-highest.ensures.0 (shl_exact 1 (get_or s (node_size * n + 1) 0 % 48 + 1) 64 (omega arith) (omega arith) ∙ one-mul (2 ^ (get_or s (node_size * n + 1) 0 % 48 + 1)))
    ∙ constant-fit s n v (λ i. (c.shared_slice_known-2-1.given i).fits) (constant-ends s n v e)

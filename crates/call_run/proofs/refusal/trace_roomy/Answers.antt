use mathlib.Core.Path.{◌∙◌}
use Prim.Native.Nat.{◌<◌}
use native.Mathlib.Omega.{arith}
use borrow.Author.Tests.{eq-eqb}
use Rattle.call_run.proofs.RefusalLaws.{no-trace, product_small, some-trace}
use Rattle.call_run.proofs.refusal.trace_roomy.Goals as goal

pub returns-then-trace-eq0 : goal.returns-then-trace-eq0
returns-then-trace-eq0 c =
    λ d e. eq-eqb c.args.trace 0 c.if-trace-eq0.true ∙ no-trace d c.args.cycles c.args.trace c.if-trace-eq0.true

pub overflow_mul-result : goal.overflow_mul-result
overflow_mul-result c =
    let k : c.args.cycles < 4294967296 = omega arith in
    record { fits = let m = product_small c.args.cycles c.args.size k c.requires in omega (arith, m) }

pub returns-else-trace-eq0 : goal.returns-else-trace-eq0
returns-else-trace-eq0 c =
    λ d e. some-trace d c.args.cycles c.args.trace c.if-trace-eq0.false c.args.size e

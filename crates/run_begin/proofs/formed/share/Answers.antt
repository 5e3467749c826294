use native.Mathlib.Omega.{arith}
use Rattle.std.proofs.lemmas.Grind.{common_steps}
use Rattle.run_begin.proofs.FormLaws.{shared}
use Rattle.run_begin.proofs.formed.share.Goals as goal

pub returns : goal.returns
returns c =
    λ m h e. let s = shared c.args.n c.args.cycles m h e in grind (arith, common_steps, s)

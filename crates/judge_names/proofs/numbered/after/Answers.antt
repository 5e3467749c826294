use Rattle.judge_names.proofs.NumberLaws.{end_of}
use native.Mathlib.Omega.{arith}
use Rattle.judge_names.proofs.numbered.after.Goals as goal

pub returns-then-ns-offset : goal.returns-then-ns-offset
returns-then-ns-offset c = (omega arith, end_of _ c.args.offset _ c.if-ns-offset.true c.requires)

use native.Mathlib.Omega.{arith}
use Rattle.parse_step.proofs.Narrow.{narrow}
use Rattle.parse_step.proofs.Paying.{not-took, spent, spent_seen, took-comes}
use Rattle.parse_expressions.proofs.BracketLaws.{keep-not, keep-says}
use Rattle.parse_step.proofs.Answers.{err-came}
use mathlib.Core.Path.{refl}
use Rattle.parse_expressions.proofs.pieces.keep.Goals as goal

pub returns-in_err-kept : goal.returns-in_err-kept
returns-in_err-kept c =
    rw (err-came c.from_residual.ensures.1) (λ k. (λ later. keep-not later k c.in_err-kept.ensures refl, not-took c.in_err-kept.ensures refl))

pub returns : goal.returns
returns c =
    λ k. (λ later. keep-says later k c.in_ok-kept.ensures refl c.counted.ensures.0, spent_seen (λ z. spent (took-comes c.in_ok-kept.ensures refl) (c.counted.ensures.1 _ (narrow _ c.args.w z k)) (omega arith)))

use Rattle.judge_actions.proofs.FormLaws.{not-arm}
use borrow.Author.Tests.{le-leb, lt-leb}
use borrow.Enum.Refused.{opened}
use borrow.Author.Rules.{rules}
use Rattle.judge_actions.proofs.conditionals.arm_size.Goals as goal

pub returns-in_default : goal.returns-in_default
returns-in_default c = (not-arm c.args.m c.args.a (opened c.in_default.in_default-own.keys2), search rules)

pub returns-then-m-n : goal.returns-then-m-n
returns-then-m-n c = (rw (c.in-Arm.is, lt-leb _ _ c.if-m-n.true), search rules)

pub returns : goal.returns
returns c = (rw (c.in-Arm.is, le-leb _ _ c.if-m-n.false), search rules)

use Rattle.judge_actions.proofs.FormLaws.{not-conditional}
use borrow.Enum.Refused.{opened}
use Rattle.judge_actions.proofs.conditionals.branch_of.Goals as goal

pub returns-in_default : goal.returns-in_default
returns-in_default c = not-conditional c.args.a (opened c.in_default.in_default-own.keys3)

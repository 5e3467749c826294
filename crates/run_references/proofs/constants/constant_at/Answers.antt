use mathlib.Core.Path.{sym, ap, ◌∙◌}
use Rattle.language.specs.Description.{constant_value}
use Rattle.value_limbs.specs.Limbs.{number}
use Rattle.image_records.proofs.NodeLaws.{node-past, no_value}
use Rattle.run_references.proofs.ConstantLaws.{none-held, value-held}
use Rattle.image_records.specs.Nodes.{constant_number, meant}
use borrow.Enum.Refused.{opened}
use Rattle.run_references.proofs.constants.constant_at.Goals as goal

pub returns-then-exprs-n : goal.returns-then-exprs-n
unfolding number
returns-then-exprs-n c =
    none-held (ap constant_value (node-past c.args.exprs.now c.args.n c.if-exprs-n.true))

pub returns-in_default : goal.returns-in_default
unfolding number
returns-in_default c =
    none-held (ap constant_value (sym c.node_at.ensures) ∙ no_value (constant_number c.args.n c.args.exprs.now) c.node_at.result (opened c.in_default.in_default-own.keys2))

pub returns : goal.returns
returns c =
    value-held c.args.exprs.now c.args.n _ (ap (meant (constant_number c.args.n c.args.exprs.now)) (sym c.in-Constant.is) ∙ c.node_at.ensures) c.number_at.ensures

use Rattle.language.specs.Description as D
use Rattle.language.specs.Description.{constant_value}
use Rattle.language.specs.Value.{Value}
use Rattle.image_records.proofs.NodeLaws.{no_value}
use Rattle.image_records.specs.Nodes.{constant_number, meant}
use mathlib.Core.Path.{ap, sym, ◌∙◌}
use borrow.Enum.Refused.{opened}
use Rattle.judge_all.proofs.values.value_length.Goals as goal

pub returns-in_default : goal.returns-in_default
returns-in_default c =
    sym (ap (λ (v : Value). v.length) (ap constant_value (sym c.node_at.ensures) ∙ no_value (constant_number c.args.a c.args.es.now) c.node_at.result (opened c.in_default.in_default-own.keys2)))

pub returns : goal.returns
returns c =
    ap (λ (x : D.Node). (constant_value x).length) (ap (meant (constant_number c.args.a c.args.es.now)) (sym c.in-Constant.is) ∙ c.node_at.ensures)

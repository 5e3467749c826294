use mathlib.Core.Path.{sym, ◌∙◌}
use native.Mathlib.Omega.{arith}
use Rattle.image_form.proofs.LabelLaws.{label-name, label-none, label-value-alone}
use Rattle.image_form.proofs.labels.label_right.Goals as goal

pub returns-then-name-gt0 : goal.returns-then-name-gt0
returns-then-name-gt0 c =
    c.name_right.ensures ∙ sym (label-name c.args.name.now _ c.if-name-gt0.true)

pub returns-in-Some : goal.returns-in-Some
returns-in-Some c =
    rw c.in-Some.is (sym (label-value-alone c.args.name.now _ (omega (arith, c.if-name-gt0.false))))

pub returns-in-None : goal.returns-in-None
returns-in-None c =
    rw c.in-None.is (sym (label-none c.args.name.now (omega (arith, c.if-name-gt0.false))))

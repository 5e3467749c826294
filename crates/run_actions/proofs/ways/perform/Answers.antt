use mathlib.Core.Path.{sym, ap, ◌∙◌}
use native.Mathlib.Omega.{arith}
use Rattle.language.specs.Acting as T
use Rattle.language.specs.Description as D
use Rattle.store_layout.specs.InBytes.{bytes}
use Rattle.run_actions.proofs.RunLaws.{operation-known, operation-unknown}
use Rattle.run_actions.proofs.ways.perform.Goals as goal

pub returns-then-limit-number : goal.returns-then-limit-number
returns-then-limit-number c =
    (tt, λ d x o. sym (operation-unknown (bytes d) d c.args.limit c.args.o x c.if-limit-number.true))

pub returns : goal.returns
returns c = (
  omega (arith, c.if-limit-number.false),
  λ d x o.
      let q = ap (λ (y : D.Operation). y.body) (o.is ∙ sym (c.operation_at.ensures.meaning o.name)) in
      sym (operation-known (bytes d) d c.args.limit c.args.o x c.if-limit-number.false ∙ ap (λ (r : D.Run). T.run_list (bytes d) d (T.operation_below (bytes d) d c.args.o) r x) q),
)

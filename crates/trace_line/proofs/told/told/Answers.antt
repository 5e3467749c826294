use Rattle.std.specs.Prelude.{Err}
use mathlib.Core.Path.{◌≡◌, ap, ◌∙◌}
use native.Mathlib.Omega.{arith}
use Rattle.language.specs.Scan.{bytes}
use Rattle.call_answers.specs.declared.cycled.Halt.TheVariants.{Refused, Stopped}
use Rattle.trace_line.proofs.TurnLaws.{carried_on, carried-refused, carried-stop}
use Rattle.trace_line.proofs.told.told.Goals as goal

pub returns-in-Ok : goal.returns-in-Ok
returns-in-Ok c =
    λ R R' scratch k q is. carried_on c.args.answer scratch is (omega arith) _ c.in-Ok.is c.args.state q c.shown.ensures

pub returns-in-Err-Stopped : goal.returns-in-Err-Stopped
unfolding bytes
returns-in-Err-Stopped c =
    λ R R' scratch k q is.
    let e : c.args.answer ≡ Err c.in-Err-Stopped.field-0 = c.in-Err-Stopped.is in
    let f : c.in-Err-Stopped.field-0 ≡ Stopped c.in-Err-Stopped.n = rw e at c.in-Err-Stopped.field-0-is in
    carried-stop c.args.answer scratch is c.in-Err-Stopped.n (omega (arith, c.from.ensures)) (e ∙ ap Err f) (rw c.from.ensures at c.numbered.ensures)

pub returns-in-Err-Refused : goal.returns-in-Err-Refused
unfolding bytes
returns-in-Err-Refused c =
    λ R R' scratch k q is.
    let e : c.args.answer ≡ Err c.in-Err-Refused.field-0 = c.in-Err-Refused.is in
    let f : c.in-Err-Refused.field-0 ≡ Refused c.in-Err-Refused.n = rw e at c.in-Err-Refused.field-0-is in
    carried-refused c.args.answer scratch is c.in-Err-Refused.n (omega (arith, c.from-in-Err-Refused.ensures)) (e ∙ ap Err f) (rw c.from-in-Err-Refused.ensures at c.numbered-in-Err-Refused.ensures)

use Rattle.language.specs.Words.{Position}
use mathlib.Core.Path.{◌≡◌, ap}
use native.Mathlib.Omega.{arith}
use Rattle.parse_step.proofs.taking.end_of.Goals as goal
use Rattle.parse_step.proofs.taking.end_of.Goals.{then-text-place-via-then-text-place, then-text-place-via-else-text-place+then-text-place-2}

pub returns-then-text-place : goal.returns-then-text-place
returns-then-text-place c = λ h.
    let e : c.place-place.result ≡ c.args.w.at.place = ap (λ (p : Position). p.place) c.place-place.ensures in
    elim c.then-text-place.branch [
      | then-text-place-via-then-text-place w ↦ absurd (omega (arith, h, e, w.if-text-place.true))
      | then-text-place-via-else-text-place+then-text-place-2 w ↦ absurd (omega (arith, h, e, w.if-text-place-2.true, w.if-text-place.false))
    ]

pub returns : goal.returns
returns c =
    λ h. let e : c.place-place.result ≡ c.args.w.at.place = ap (λ (p : Position). p.place) c.place-place.ensures in omega (arith, h, e)

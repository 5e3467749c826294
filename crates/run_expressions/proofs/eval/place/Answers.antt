use mathlib.Core.Path.{sym, ap, ◌∙◌}
use Rattle.run_references.specs.Places.{located_meant}
use Rattle.run_references.proofs.PlaceLaws.{counted, miscounted, name_of, none_read}
use Rattle.std.proofs.lemmas.Result.{err_from_is_err_and}
use Rattle.run_expressions.proofs.eval.place.Goals as goal

pub returns-then-section-number : goal.returns-then-section-number
returns-then-section-number c = (
  tt,
  λ d E h ev w.
      sym (none_read h c.args.number c.facility_at-f.result c.facility_at-f.ensures ev c.args.s c.if-section-number.true),
)

pub returns-then-not-right_count : goal.returns-then-not-right_count
returns-then-not-right_count c = (
  tt,
  λ d E h ev w.
      sym (miscounted h c.args.number c.facility_at-f.result c.facility_at-f.ensures ev c.args.s c.if-section-number.false (sym c.right_count.ensures ∙ c.if-not-right_count.true)),
)

pub returns-in_err-located : goal.returns-in_err-located
returns-in_err-located c =
    let r = err_from_is_err_and c.from_residual.result c.from_residual.ensures.1 in
    rw (r.1, r.2) (
      tt,
      λ d E h ev w.
          let f = c.facility_at-f in
          let z = w f.result f.ensures in
          let p = counted h c.args.number f.result f.ensures ev c.args.s c.if-section-number.false (sym c.right_count.ensures ∙ c.if-not-right_count.false) in
          sym (p ∙ (sym (c.located.ensures ev (name_of h c.args.number f.result f.ensures) z.0 z.1) ∙ ap located_meant c.in_err-located.was)),
    )

pub returns : goal.returns
returns c = (
  c.facility_at-f.ensures,
  λ d E h ev w.
      let f = c.facility_at-f in
      let z = w f.result f.ensures in
      let p = counted h c.args.number f.result f.ensures ev c.args.s c.if-section-number.false (sym c.right_count.ensures ∙ c.if-not-right_count.false) in
      sym (p ∙ (sym (c.located.ensures ev (name_of h c.args.number f.result f.ensures) z.0 z.1) ∙ ap located_meant c.in_ok-located.was)),
)

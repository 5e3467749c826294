use Rattle.image_records.specs.References.{reference_meant}
use Rattle.language.specs.Description as D
use Rattle.language.specs.ActionRules.{kind_at}
use mathlib.Core.Path.{sym, ap, ◌∙◌}
use mathlib.Core.List.{[]}
use Rattle.judge_actions.proofs.stores.kind_at.Goals as goal

pub returns-in-Some : goal.returns-in-Some
unfolding kind_at
returns-in-Some c =
    record {
      kind = λ d p t marks memo known sh. rw (sym (ap reference_meant (sym c.in-Some.is) ∙ c.reference_at.ensures d p sh.records))
          (ap (λ (x : D.Facility). x.kind) (c.facility_at-x.ensures.meaning []) ∙ sym (sh.kind _));
    }

pub returns-in-None : goal.returns-in-None
unfolding kind_at
returns-in-None c =
    record { kind = λ d p t marks memo known sh. rw (sym (ap reference_meant (sym c.in-None.is) ∙ c.reference_at.ensures d p sh.records)) }

use Rattle.judge_verdicts.specs.Meaning.{seen}
use Rattle.language.specs.Storing.{may_store}
use mathlib.Core.Path.{ap, ◌∙◌}
use Rattle.judge_actions.proofs.stores.store.Goals as goal

pub returns : goal.returns
returns c =
    λ q z d p t sh. rw (← (c.may_store-allowed.ensures ∙ ap (may_store c.args.sign) (c.kind_at.ensures.kind d p t _ _ _ sh)))
    (c.stored.ensures q _ _ z (λ w i. c.length_of.ensures.0 w (c.left-a.ensures d p t sh ∙ ap seen i)) (c.only_work.ensures _ (c.left-a.ensures d p t sh)) (c.expression-b.ensures d p t sh))

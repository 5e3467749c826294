use Rattle.language.specs.ActionRules.{kind_at}
use Rattle.language.specs.Expressions.{left_at}
use Rattle.judge_actions.proofs.StoreLaws.{both_cond, pair-length, pair-worked}
use Rattle.judge_verdicts.specs.Meaning.{seen}
use Rattle.language.specs.Tree.{Kind}
use Rattle.language.specs.Storing.{may_store}
use mathlib.Core.Bool.{cond, false}
use mathlib.Core.Path.{sym, ap, ap₂, ◌∙◌}
use Rattle.judge_actions.proofs.stores.store_pair.Goals as goal

pub returns : goal.returns
returns c =
    λ q z d p t sh.
    rw (← (c.may_both-allowed.ensures ∙ ap₂ (λ (a b : Kind). cond (may_store c.args.sign a) (may_store c.args.sign b) false) (c.kind_at.ensures.kind d p t _ _ _ sh) (c.kind_at-2.ensures.kind d p t _ _ _ sh) ∙ sym (both_cond (may_store c.args.sign (kind_at d c.args.l)) (may_store c.args.sign (kind_at d c.args.m)))))
    (c.stored.ensures q _ _ z
    (λ w i. pair-length _ _ _ _ w i (λ x u. c.length_of.ensures.0 x (c.left-a.ensures d p t sh ∙ ap seen u)) (λ y u. c.length_of-2.ensures.0 y (c.left-b.ensures d p t sh ∙ ap seen u)))
    (c.together.ensures _ _ (c.left-a.ensures d p t sh) (c.left-b.ensures d p t sh) ∙ ap seen (pair-worked (left_at d p t c.args.known c.args.l) (left_at d p t c.args.known c.args.m)))
    (c.expression-c.ensures d p t sh))

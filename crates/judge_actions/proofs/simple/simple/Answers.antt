use Rattle.judge_actions.proofs.SimpleLaws.{arm_is, broken-is, call-is, choose-is, goto-is, pair_is, perform-is, return-is, set_is, simple-is, store_is, when-is}
use Rattle.judge_verdicts.proofs.VerdictLaws.{refuse-same}
use Rattle.image_records.specs.Actions.{meant}
use Rattle.language.specs.Description.{action_place}
use mathlib.Core.Logic.{inl, inr}
use mathlib.Core.Path.{sym, ap, ◌∙◌}
use Rattle.language.specs.declared.refusals.Refusal.TheVariants.{BadName, NoContinuation}
use borrow.Author.Rules.{rules}
use Rattle.judge_actions.proofs.simple.simple.Goals as goal

pub returns-in-Store : goal.returns-in-Store
returns-in-Store c =
    λ d p w l. simple-is d p c.args.own.now.state w (action_place p c.args.i) c.args.i (l.action c.args.i ∙ sym c.action_at.ensures ∙ ap meant c.in-Store.is) (store_is d p c.args.own.now.state w l.count (action_place p c.args.i) _ _ _ (c.only_in.ensures _ _ (c.of_record-at.ensures ∙ sym (l.place c.args.i)) (c.store-v.ensures _ (c.of_record-at.ensures ∙ sym (l.place c.args.i)) d p _ l.shown)))

pub returns-in-StorePair : goal.returns-in-StorePair
returns-in-StorePair c =
    λ d p w l. simple-is d p c.args.own.now.state w (action_place p c.args.i) c.args.i (l.action c.args.i ∙ sym c.action_at.ensures ∙ ap meant c.in-StorePair.is) (pair_is d p c.args.own.now.state w l.count (action_place p c.args.i) _ _ _ _ (c.only_in-in-StorePair.ensures _ _ (c.of_record-at.ensures ∙ sym (l.place c.args.i)) (c.store_pair-v.ensures _ (c.of_record-at.ensures ∙ sym (l.place c.args.i)) d p _ l.shown)))

pub returns-in-Set : goal.returns-in-Set
returns-in-Set c =
    λ d p w l. simple-is d p c.args.own.now.state w (action_place p c.args.i) c.args.i (l.action c.args.i ∙ sym c.action_at.ensures ∙ ap meant c.in-Set.is) (set_is d p c.args.own.now.state w l.count (action_place p c.args.i) _ (c.set.ensures _ (c.of_record-at.ensures ∙ sym (l.place c.args.i)) d p _ l.shown))

pub returns-in-Perform : goal.returns-in-Perform
returns-in-Perform c =
    λ d p w l. simple-is d p c.args.own.now.state w (action_place p c.args.i) c.args.i (l.action c.args.i ∙ sym c.action_at.ensures ∙ ap meant c.in-Perform.is) (perform-is d p c.args.own.now.state w (action_place p c.args.i) _ (c.perform.ensures w (λ h. l.operation _ (search rules) h) (λ h. l.unknown _ h)))

pub returns-in-Goto : goal.returns-in-Goto
returns-in-Goto c =
    λ d p w l.
    let v = c.only_in-in-Goto.ensures _ _ (c.of_record-at.ensures ∙ sym (l.place c.args.i)) (c.to_state-v.ensures _ (c.of_record-at.ensures ∙ sym (l.place c.args.i))) in
    elim c.in-Goto.is [
      | inl e ↦ simple-is d p c.args.own.now.state w (action_place p c.args.i) c.args.i (l.action c.args.i ∙ sym c.action_at.ensures ∙ ap meant e) (goto-is d p c.args.own.now.state w (action_place p c.args.i) _ (l.label _) v)
      | inr e ↦ simple-is d p c.args.own.now.state w (action_place p c.args.i) c.args.i (l.action c.args.i ∙ sym c.action_at.ensures ∙ ap meant e) (call-is d p c.args.own.now.state w (action_place p c.args.i) _ (l.label _) v)
    ]

pub returns-in-Return : goal.returns-in-Return
returns-in-Return c =
    λ d p w l. simple-is d p c.args.own.now.state w (action_place p c.args.i) c.args.i (l.action c.args.i ∙ sym c.action_at.ensures ∙ ap meant c.in-Return.is) (return-is d p c.args.own.now.state w (action_place p c.args.i) (c.only_in-in-Return.ensures _ _ (c.of_record-at.ensures ∙ sym (l.place c.args.i)) c.alone.ensures))

pub returns-in-When : goal.returns-in-When
returns-in-When c =
    λ d p w l.
    let v = c.refused.ensures ∙ refuse-same NoContinuation (c.of_record-at.ensures ∙ sym (l.place c.args.i)) in
    elim c.in-When.is [
      | inl (x, y, e) ↦ simple-is d p c.args.own.now.state w (action_place p c.args.i) c.args.i (l.action c.args.i ∙ sym c.action_at.ensures ∙ ap meant e) (when-is d p c.args.own.now.state w (action_place p c.args.i) _ _ v)
      | inr (inl (x, y, z, e)) ↦ simple-is d p c.args.own.now.state w (action_place p c.args.i) c.args.i (l.action c.args.i ∙ sym c.action_at.ensures ∙ ap meant e) (choose-is d p c.args.own.now.state w (action_place p c.args.i) _ _ _ v)
      | inr (inr (x, e)) ↦ simple-is d p c.args.own.now.state w (action_place p c.args.i) c.args.i (l.action c.args.i ∙ sym c.action_at.ensures ∙ ap meant e) (arm_is d p c.args.own.now.state w (action_place p c.args.i) _ v)
    ]

pub returns-in-Broken : goal.returns-in-Broken
returns-in-Broken c =
    λ d p w l. simple-is d p c.args.own.now.state w (action_place p c.args.i) c.args.i (l.action c.args.i ∙ sym c.action_at.ensures ∙ ap meant c.in-Broken.is) (broken-is d p c.args.own.now.state w (action_place p c.args.i) (c.refused-in-Broken.ensures ∙ refuse-same BadName (c.of_record-at.ensures ∙ sym (l.place c.args.i))))

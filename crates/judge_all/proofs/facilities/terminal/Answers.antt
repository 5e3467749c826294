use Rattle.judge_all.proofs.FacilityLaws.{computed-expression, shown-kept, terminal-is}
use Rattle.judge_verdicts.specs.Meaning.{seen}
use Rattle.language.specs.Description.{is_computed}
use native.Mathlib.Nat.{le_of_lt, sub-zero}
use mathlib.Core.Path.{refl, ap, sym, ◌∙◌}
use Rattle.judge_all.proofs.facilities.terminal.Goals as goal

pub returns-then-is_computed : goal.returns-then-is_computed
returns-then-is_computed c = (
  c.fill-end.ensures.size,
  c.fill-end.ensures.kept,
  λ d p s r.
      rw (ap is_computed (s.kind c.args.n ∙ sym c.requires.1.kind) ∙ sym c.is_computed.ensures ∙ c.if-is_computed.true)
      (c.expression.ensures d p _ (rw sub-zero (c.fill-end.ensures.shown d p _ (shown-kept _ s r (le_of_lt c.requires.0))))
      ∙ ap seen (terminal-is d p c.args.n (computed-expression c.args.f (s.facility c.args.n c.requires.0 c.args.f c.requires.1) (sym c.is_computed.ensures ∙ c.if-is_computed.true)))),
)

pub returns : goal.returns
returns c =
    (refl, refl, λ d p s r. rw (ap is_computed (s.kind c.args.n ∙ sym c.requires.1.kind) ∙ sym c.is_computed.ensures ∙ c.if-is_computed.false) c.nothing.ensures)

use mathlib.Core.Path.{◌≡◌, ap, sym, ◌∙◌}
use Rattle.language.specs.Judging as L
use Rattle.judge_verdicts.specs.Meaning.{seen}
use Rattle.judge_verdicts.specs.Meaning.{Verdict}
use Rattle.judge_terms.specs.Shown.{with_own}
use borrow.Author.Rules.{rules}
use Rattle.judge_expressions.proofs.operands.noted_operand.Goals as goal

-- What is answered is found by what it is, so that an answer without work of its own fails here for that.
counted : {v w : Verdict} (a b : L.Judged) → ((j : L.Judged) → v ≡ seen j → w ≡ seen (with_own j)) → v ≡ seen a → with_own a ≡ b → w ≡ seen b
counted a b own p q = own a p ∙ ap seen q

pub returns-then-is_reference : goal.returns-then-is_reference
returns-then-is_reference c =
    λ d p t known r.
    let e = sym c.is_reference.ensures ∙ c.if-is_reference.true in
    counted _ _ (search rules) (c.verdict-v.ensures ∙ r.left e) (r.operand e)

pub returns : goal.returns
returns c = λ d p t known r. c.verdict-v.ensures ∙ r.other (sym c.is_reference.ensures ∙ c.if-is_reference.false)

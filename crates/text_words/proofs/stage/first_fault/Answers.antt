use mathlib.Core.Path.{sym, ◌∙◌}
use Rattle.text_words.proofs.Stages.{long-first, words-first}
use Rattle.text_words.proofs.stage.first_fault.Goals as goal

pub returns-then-too_long : goal.returns-then-too_long
returns-then-too_long c =
    c.refused.ensures ∙ long-first c.args.text.now (sym c.too_long.ensures ∙ c.if-too_long.true)

pub returns : goal.returns
returns c =
    c.word_fault.ensures ∙ words-first c.args.text.now (sym c.too_long.ensures ∙ c.if-too_long.false)

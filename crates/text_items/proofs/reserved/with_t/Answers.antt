use mathlib.Core.Path.{refl, sym, ◌∙◌}
use Rattle.language.specs.Characters.{folded}
use Rattle.language.specs.Scan.{bytes, reserved_words}
use Rattle.text_items.specs.Tables.{beginning, kind_with}
use Rattle.text_items.proofs.Lookup.{among-here, among-last, among_next}
use Rattle.text_items.proofs.reserved.with_t.Goals as goal

pub returns-then-matches : goal.returns-then-matches
unfolding kind_with beginning reserved_words bytes folded
returns-then-matches c = among-here _ _ _ (sym c.matches.ensures ∙ c.if-matches.true)

pub returns-then-matches-2 : goal.returns-then-matches-2
unfolding kind_with beginning reserved_words bytes folded
returns-then-matches-2 c = among_next _ _ _ _ (sym c.matches.ensures ∙ c.if-matches.false) (among-here _ _ _ (sym c.matches-2.ensures ∙ c.if-matches-2.true))

pub returns-then-matches-3 : goal.returns-then-matches-3
unfolding kind_with beginning reserved_words bytes folded
returns-then-matches-3 c = among_next _ _ _ _ (sym c.matches.ensures ∙ c.if-matches.false) (among_next _ _ _ _ (sym c.matches-2.ensures ∙ c.if-matches-2.false) (among-here _ _ _ (sym c.matches-3.ensures ∙ c.if-matches-3.true)))

pub returns : goal.returns
unfolding kind_with beginning reserved_words bytes folded
returns c = among_next _ _ _ _ (sym c.matches.ensures ∙ c.if-matches.false) (among_next _ _ _ _ (sym c.matches-2.ensures ∙ c.if-matches-2.false) (among_next _ _ _ _ (sym c.matches-3.ensures ∙ c.if-matches-3.false) (among-last _ _ _ refl c.only.ensures)))

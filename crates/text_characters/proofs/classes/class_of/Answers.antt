use Rattle.language.specs.Characters.{class_of, member, symbols}
use Rattle.text_characters.proofs.Table.{value-at}
use Rattle.text_characters.proofs.ByClass.{past}
use borrow.Author.Rules.{rules}
use Rattle.text_characters.proofs.classes.class_of.Goals as goal

pub returns-then-b-lt128 : goal.returns-then-b-lt128
unfolding class_of member symbols
returns-then-b-lt128 c = value-at class_of 128 c.args.b (search rules)

pub returns-else-b-lt128 : goal.returns-else-b-lt128
returns-else-b-lt128 c = past _ c.if-b-lt128.false

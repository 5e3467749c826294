use Rattle.std.proofs.Common.{arith, rules, tests}
use Rattle.std.proofs.lemmas.Bool.Decides.{nat_tests}
use Rattle.language.specs.Columns.{width_after}
use Rattle.text_words.proofs.lines.width_after.Goals as goal

pub returns-in-9 : goal.returns-in-9
unfolding width_after
returns-in-9 c = grind (arith, nat_tests)

pub returns-in-10 : goal.returns-in-10
unfolding width_after
returns-in-10 c = search (tests, rules)

pub returns-in-13 : goal.returns-in-13
unfolding width_after
returns-in-13 c = grind (arith, nat_tests)

pub returns-in_default : goal.returns-in_default
unfolding width_after
returns-in_default c = grind (arith, nat_tests)

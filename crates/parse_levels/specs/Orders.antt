-- The levels of expressions and the ranks of operators, and what the machine asks for at each.
use Rattle.std.specs.Prelude.{cond, List, [], ◌∷◌, ℕ, eqb, leb, drop, take}
use Rattle.about_grammar.specs.Following.{among}
use Rattle.language.specs.Alternatives.{plain_word}
use Rattle.language.specs.Kinds.{con_word, difference_sign, exclusive_sign, minus, plus, red_word, star}
use Rattle.language.specs.Machine.{adjustment, and_tail, arithmetic, arithmetic_tail, ask, complement, con_tail, cut_tail, exclusive_tail, expression, minterm, or_tail, product, reduction, relation_tail, term}
use Rattle.language.specs.Operators.{cuts, reductions, relations, sums}
use Rattle.parse_step.specs.Course.{Stack}
use Rattle.parse_levels.specs.declared.Lead.{Lead}
use Rattle.parse_levels.specs.declared.Lead.TheVariants as H
use Rattle.parse_levels.specs.declared.Level.{Level}
use Rattle.parse_levels.specs.declared.Level.TheVariants as E
use Rattle.parse_levels.specs.declared.Rank.{Rank}
use Rattle.parse_levels.specs.declared.Rank.TheVariants as R
use Rattle.language.specs.Tests.{both}

abbrev pub operators_of : Rank → List ℕ
operators_of R.Sum = sums
operators_of R.Relation = relations
operators_of R.Cut = cuts
operators_of R.Con = con_word ∷ []
operators_of R.And = star ∷ []
operators_of R.Exclusive = exclusive_sign ∷ []
operators_of R.Or = plus ∷ []
operators_of R.Beyond = []

abbrev pub next_rank : Rank → Rank
next_rank R.Sum = R.Relation
next_rank R.Relation = R.Cut
next_rank R.Cut = R.Con
next_rank R.Con = R.And
next_rank R.And = R.Exclusive
next_rank R.Exclusive = R.Or
next_rank R.Or = R.Beyond
next_rank R.Beyond = R.Beyond

abbrev pub operand_level : Rank → Level
operand_level R.Sum = E.Term
operand_level R.Relation = E.Arithmetic
operand_level R.Cut = E.Term
operand_level R.Con = E.Reduction
operand_level R.And = E.Complement
operand_level R.Exclusive = E.Product
operand_level R.Or = E.Minterm
operand_level R.Beyond = E.Term

abbrev pub rank_no : Rank → ℕ
rank_no R.Sum = 0
rank_no R.Relation = 1
rank_no R.Cut = 2
rank_no R.Con = 3
rank_no R.And = 4
rank_no R.Exclusive = 5
rank_no R.Or = 6
rank_no R.Beyond = 7

abbrev pub level_no : Level → ℕ
level_no E.Term = 0
level_no E.Arithmetic = 1
level_no E.Adjustment = 2
level_no E.Reduction = 3
level_no E.Chain = 4
level_no E.Complement = 5
level_no E.Product = 6
level_no E.Minterm = 7
level_no E.Expression = 8

abbrev pub top_no : Level → ℕ
top_no E.Term = 0
top_no E.Arithmetic = 1
top_no E.Adjustment = 3
top_no E.Reduction = 3
top_no E.Chain = 4
top_no E.Complement = 4
top_no E.Product = 5
top_no E.Minterm = 6
top_no E.Expression = 7

-- ---- Heads.

unfoldable pub head_of : Level → ℕ → Lead
head_of l k =
    cond (both (leb 5 (level_no l)) (eqb k minus)) H.Complement
    (cond (both (leb 3 (level_no l)) (among k reductions)) H.Reduction
    (cond (both (leb 1 (level_no l)) (eqb k difference_sign)) H.Negation H.Plain))

abbrev pub prefix_level : Lead → Level
prefix_level H.Plain = E.Term
prefix_level H.Negation = E.Term
prefix_level H.Reduction = E.Adjustment
prefix_level H.Complement = E.Chain

abbrev pub rank_after : Lead → Rank
rank_after H.Plain = R.Sum
rank_after H.Negation = R.Sum
rank_after H.Reduction = R.Con
rank_after H.Complement = R.And

-- ---- What the machine asks for.

abbrev pub tail_stack : Rank → Stack
tail_stack R.Sum = ask arithmetic_tail ∷ []
tail_stack R.Relation = ask relation_tail ∷ []
tail_stack R.Cut = ask cut_tail ∷ []
tail_stack R.Con = ask con_tail ∷ []
tail_stack R.And = ask and_tail ∷ []
tail_stack R.Exclusive = ask exclusive_tail ∷ []
tail_stack R.Or = ask or_tail ∷ []
tail_stack R.Beyond = []

abbrev pub stack_of : Level → Stack
stack_of E.Term = ask term ∷ []
stack_of E.Arithmetic = ask arithmetic ∷ []
stack_of E.Adjustment = ask adjustment ∷ []
stack_of E.Reduction = ask reduction ∷ []
stack_of E.Chain = ask reduction ∷ ask con_tail ∷ []
stack_of E.Complement = ask complement ∷ []
stack_of E.Product = ask product ∷ []
stack_of E.Minterm = ask minterm ∷ []
stack_of E.Expression = ask expression ∷ []

abbrev pub all_tails : Stack
all_tails = ask arithmetic_tail ∷ ask relation_tail ∷ ask cut_tail ∷ ask con_tail ∷ ask and_tail ∷ ask exclusive_tail ∷ ask or_tail ∷ []

-- The tails of a level from a rank on.
unfoldable pub tails_from : Rank → Level → Stack
tails_from r l = drop (rank_no r) (take (top_no l) all_tails)

-- After an operator's right operand: the same rank again, but for a relation.
abbrev pub again : Rank → Stack
again R.Sum = ask arithmetic_tail ∷ []
again R.Relation = []
again R.Cut = ask cut_tail ∷ []
again R.Con = ask con_tail ∷ []
again R.And = ask and_tail ∷ []
again R.Exclusive = ask exclusive_tail ∷ []
again R.Or = ask or_tail ∷ []
again R.Beyond = []

-- After a prefix operator: its operand.
abbrev pub prefix_stack : Lead → Stack
prefix_stack H.Plain = ask term ∷ []
prefix_stack H.Negation = ask term ∷ []
prefix_stack H.Reduction = plain_word red_word ∷ ask adjustment ∷ []
prefix_stack H.Complement = ask reduction ∷ ask con_tail ∷ []

-- The machine's rules: for each notion the words with which it may begin, and what then comes. They follow the grammar rule by rule.
use Rattle.std.specs.Prelude.{true, false, List, [], ◌∷◌, ◌++◌, map, ℕ}
use Rattle.language.specs.Alternatives.{after_step, closing, counts, counts_opening, each, enter, followed, kept, lead, no_step, plain_word, shut, way}
use Rattle.language.specs.Kinds.{a_constant, a_name, at_sign, call_sign, case_word, close_bracket, close_paren, colon, comma, con_word, delayed_sign, difference_sign, do_word, else_word, end_case_word, end_if_word, equal_sign, exclusive_sign, goto_sign, if_word, minus, open_bracket, open_paren, plus, red_word, return_word, slash, star, then_word}
use Rattle.language.specs.Machine.{Alternative, Ask, Sym, adjustment, and_tail, arithmetic, arithmetic_tail, ask, complement, con_tail, counted, cut_tail, ease, exclusive_tail, expression, keep, level, make, minterm, more_arms, operation_action, operation_arms, operation_if_rest, operation_more, operation_name, or_tail, product, reduction, relation_tail, second, second_option, set_sign, state_action, state_arms, state_if_rest, state_more, store_sign, subscript, subscripts, term}
use Rattle.language.specs.Operators.{cuts, reductions, relations, sums}
use Rattle.language.specs.BuildSteps.{Step, Steps}

module _ {B : Type 0} (S : Steps B) where
  -- ---- Expressions (the manual, 5.1 and 5.2).

  -- What a term begins with, but for a constant.
  abbrev pub other_term_ways : List (Alternative B)
  other_term_ways =
      counts a_name (ask subscripts ∷ [])
      ∷ enter open_paren (ask expression ∷ closing close_paren ∷ [])
      ∷ counts_opening if_word
      (ask expression ∷ plain_word then_word ∷ ask expression ∷ make S.make_first_arm ∷ plain_word else_word ∷ ask expression ∷ make S.make_next_arm ∷ closing end_if_word ∷ make S.make_choice ∷ [])
      ∷ counts_opening case_word
      (ask expression ∷ plain_word do_word ∷ ask expression ∷ make S.make_first_arm ∷ plain_word do_word ∷ ask expression ∷ make S.make_next_arm ∷ ask more_arms ∷ closing end_case_word ∷ make S.make_choice ∷ [])
      ∷ []

  abbrev pub term_ways : List (Alternative B)
  term_ways = counts a_constant (make S.make_constant ∷ []) ∷ other_term_ways

  -- Each level, over the ways in which its terms may begin.
  abbrev pub arithmetic_ways : List (Alternative B) → List (Alternative B)
  arithmetic_ways terms =
      counts_opening difference_sign (ask term ∷ make S.make_prefix ∷ ease ∷ ask arithmetic_tail ∷ [])
      ∷ map (followed (ask arithmetic_tail ∷ [])) terms

  abbrev pub adjustment_ways : List (Alternative B) → List (Alternative B)
  adjustment_ways terms = map (followed (ask relation_tail ∷ ask cut_tail ∷ [])) (arithmetic_ways terms)

  abbrev pub reduction_ways : List (Alternative B) → List (Alternative B)
  reduction_ways terms =
      each reductions (λ k. counts_opening k (plain_word red_word ∷ ask adjustment ∷ make S.make_prefix ∷ ease ∷ []))
      ++ adjustment_ways terms

  abbrev pub complement_ways : List (Alternative B) → List (Alternative B)
  complement_ways terms =
      counts_opening minus (ask reduction ∷ ask con_tail ∷ make S.make_prefix ∷ ease ∷ [])
      ∷ map (followed (ask con_tail ∷ [])) (reduction_ways terms)

  abbrev pub product_ways : List (Alternative B) → List (Alternative B)
  product_ways terms = map (followed (ask and_tail ∷ [])) (complement_ways terms)

  abbrev pub minterm_ways : List (Alternative B) → List (Alternative B)
  minterm_ways terms = map (followed (ask exclusive_tail ∷ [])) (product_ways terms)

  abbrev pub expression_ways : List (Alternative B) → List (Alternative B)
  expression_ways terms = map (followed (ask or_tail ∷ [])) (minterm_ways terms)

  -- An operator of a level, its right operand, and more of the same level.
  abbrev pub operator_way : Ask → Ask → ℕ → Alternative B
  operator_way right tail k = counts k (ask right ∷ make S.make_binary ∷ ask tail ∷ [])

  abbrev pub or_ways : List (Alternative B)
  or_ways = operator_way minterm or_tail plus ∷ []

  abbrev pub exclusive_ways : List (Alternative B)
  exclusive_ways = operator_way product exclusive_tail exclusive_sign ∷ []

  abbrev pub and_ways : List (Alternative B)
  and_ways = operator_way complement and_tail star ∷ []

  abbrev pub con_ways : List (Alternative B)
  con_ways = operator_way reduction con_tail con_word ∷ []

  abbrev pub cut_ways : List (Alternative B)
  cut_ways = each cuts (λ k. counts k (keep a_constant ∷ make S.make_cut ∷ ask cut_tail ∷ []))

  abbrev pub relation_ways : List (Alternative B)
  relation_ways = each relations (λ k. counts k (ask arithmetic ∷ make S.make_binary ∷ []))

  abbrev pub arithmetic_tail_ways : List (Alternative B)
  arithmetic_tail_ways = each sums (operator_way term arithmetic_tail)

  -- ---- References (the manual, 5.1.1).

  -- The ways on after an operand that begins an expression, when `end` comes after the expression.
  abbrev pub rest_ways : List (Alternative B) → Ask → List (Alternative B)
  rest_ways end_ways end =
      map (followed (ask relation_tail ∷ ask cut_tail ∷ ask con_tail ∷ ask and_tail ∷ ask exclusive_tail ∷ ask or_tail ∷ ask end ∷ [])) arithmetic_tail_ways
      ++ map (followed (ask cut_tail ∷ ask con_tail ∷ ask and_tail ∷ ask exclusive_tail ∷ ask or_tail ∷ ask end ∷ [])) relation_ways
      ++ map (followed (ask con_tail ∷ ask and_tail ∷ ask exclusive_tail ∷ ask or_tail ∷ ask end ∷ [])) cut_ways
      ++ map (followed (ask and_tail ∷ ask exclusive_tail ∷ ask or_tail ∷ ask end ∷ [])) con_ways
      ++ map (followed (ask exclusive_tail ∷ ask or_tail ∷ ask end ∷ [])) and_ways
      ++ map (followed (ask or_tail ∷ ask end ∷ [])) exclusive_ways
      ++ map (followed (ask end ∷ [])) or_ways
      ++ end_ways

  abbrev pub after_subscript_ways : List (Alternative B)
  after_subscript_ways = shut close_bracket (ask second_option ∷ []) ∷ lead comma (ask second ∷ []) ∷ []

  abbrev pub second_end_ways : List (Alternative B)
  second_end_ways = shut close_bracket (make S.make_two ∷ []) ∷ []

  -- A part's colon stands in the place of the rest of an expression.
  abbrev pub colon_instead : List (Sym B) → Alternative B
  colon_instead to = way colon no_step false [] level true to

  -- Behind `[` or `,`: a constant waits for what follows it; any other expression goes on to `end`.
  abbrev pub subscript_ways : Ask → Ask → List (Sym B) → List (Alternative B)
  subscript_ways waits on end =
      kept a_constant (ask waits ∷ ask on ∷ [])
      ∷ map (followed end) (expression_ways other_term_ways)

  -- ---- Actions (the manual, 7.1 and 8.2).

  -- A list of actions, which begins with a step.
  abbrev pub operation_list : Step B → List (Sym B)
  operation_list begin = make begin ∷ ask operation_action ∷ ask operation_more ∷ []

  abbrev pub state_list : Step B → List (Sym B)
  state_list begin = make begin ∷ ask state_action ∷ ask state_more ∷ []

  abbrev pub if_way : (Step B → List (Sym B)) → Ask → Alternative B
  if_way list if_rest = counts_opening if_word (ask expression ∷ plain_word then_word ∷ (list S.begin_then ++ ask if_rest ∷ []))

  abbrev pub case_way : (Step B → List (Sym B)) → Ask → Alternative B
  case_way list arms =
      counts_opening case_word
      (ask expression ∷ make S.begin_arms ∷ plain_word do_word ∷ (list S.begin_arm ++ make S.make_arm ∷ ask arms ∷ closing end_case_word ∷ make S.make_choose ∷ []))

  abbrev pub if_rest_ways : (Step B → List (Sym B)) → List (Alternative B)
  if_rest_ways list = shut end_if_word (make S.make_when ∷ []) ∷ lead else_word (list S.begin_else ++ closing end_if_word ∷ make S.make_if ∷ []) ∷ []

  abbrev pub arm_ways : (Step B → List (Sym B)) → Ask → List (Alternative B)
  arm_ways list arms = lead do_word (list S.begin_arm ++ make S.make_arm ∷ ask arms ∷ []) ∷ []

  abbrev pub store_ways : List (Alternative B)
  store_ways = each (delayed_sign ∷ equal_sign ∷ []) (λ k. counts k (ask expression ∷ make S.make_store ∷ []))

  abbrev pub set_way : Alternative B
  set_way = counts at_sign (make S.make_set ∷ [])

  -- Two references joined by CON, and then a store's sign.
  abbrev pub pair_way : Alternative B
  pair_way = lead con_word (keep a_name ∷ ask subscripts ∷ make S.make_pair ∷ ask store_sign ∷ [])

  abbrev pub left_ways : List (Alternative B)
  left_ways = pair_way ∷ set_way ∷ map (after_step S.make_single []) store_ways

  abbrev pub operation_action_ways : List (Alternative B)
  operation_action_ways =
      kept a_name (ask operation_name ∷ [])
      ∷ if_way operation_list operation_if_rest
      ∷ case_way operation_list operation_arms
      ∷ []

  -- In a state, but for a name.
  abbrev pub signed_state_ways : List (Alternative B)
  signed_state_ways =
      way goto_sign no_step false (counted ∷ []) level false (keep a_name ∷ make S.make_goto ∷ [])
      ∷ way call_sign no_step false (counted ∷ []) level false (keep a_name ∷ make S.make_call ∷ [])
      ∷ counts return_word (make S.make_return ∷ [])
      ∷ if_way state_list state_if_rest
      ∷ case_way state_list state_arms
      ∷ []

  abbrev pub state_name_ways : List (Alternative B)
  state_name_ways = enter open_bracket (ask subscript ∷ ask set_sign ∷ []) ∷ after_step S.make_whole [] set_way ∷ []

  abbrev pub end_state : Alternative B
  end_state = lead slash (make S.make_state ∷ [])

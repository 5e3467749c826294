-- The grammar: the manual's Appendix B as 01 narrows it. `Is n h ws t`: the words ws are an n whose tree is t, and at most h brackets, conditionals and prefix operators are open at any of them. A constructor for each rule, no parser.
use Rattle.std.specs.Prelude.{true, List, [], ◌∷◌, ◌++◌, ◌≡◌, ℕ, suc}
use Rattle.std.proofs.Math.Option.{Option, none, some}
use Rattle.language.specs.Kinds.{at_sign, call_sign, case_word, close_bracket, close_paren, colon, comma, con_word, control_word, difference_sign, do_word, dollar, else_word, end_case_word, end_if_word, equal_sign, exclusive_sign, goto_sign, hash, if_word, input_word, memory_word, minus, open_bracket, open_paren, operation_word, plus, red_word, register_word, return_word, slash, star, terminal_word, then_word}
use Rattle.language.specs.Notions.{AtMostOne, Notion, Section, Tree, action_list, actions, adjustment, arithmetic, arms, as_declared, between_subscripts, boolean_exp, chain, complement, control_section, declaration, declared, dimensions, dollar_option, ending, ends, ends_section, expression, expression_arms, extent, facilities, facility, first_place, in_operation, in_state, is_store, label, left, left_side, memory_option, memory_section, memory_spec, memory_specs, minterm, more_arms, nothing, one_bound, operation_defs, operation_of, operation_section, operations, optional_ending, pair_of, product, range, reduction, reference, register_section, register_spec, register_specs, relation, rest, state_def, state_defs, state_label, state_of, states, term, terminal_option, terminal_section, terminal_spec, terminal_specs, text, whole_text}
use Rattle.language.specs.Operators.{is_arithmetic, is_cut, is_reduction, is_relation}
use Rattle.language.specs.Tree as T
use Rattle.language.specs.Tree.{Actions, Declaration, Ends, Expression, Extent, Label, Left, Name, Operation, State, StateValue, binary, choice, computed, constant, cut, first_arm, from_input, given, input, memory, next_arm, one, pair, part, plain, prefix, register, row, sequencing, table, two, unspecified, whole, word_part}
use Rattle.language.specs.Words as W
use Rattle.language.specs.Words.{Constant, Position, Word, sign}

pub data Is : Notion → ℕ → List Word → Tree → Type 0 where
  -- identifier-ref (5.1.1); X[e][e] and X[e][c:d] stand for X[e,e] and X[e,c:d]
  ref-whole : {h : ℕ} {n : Name} {p : Position} → Is reference h (W.name n p ∷ []) (expression (whole n p))
  ref-one : {h : ℕ} {n : Name} {p o : Position} (c : Position) {us : List Word} {e : Expression}
      → Is boolean_exp h us (expression e)
      → Is reference (suc h) (W.name n p ∷ sign open_bracket o ∷ (us ++ sign close_bracket c ∷ [])) (expression (one n p e))
  ref-part : {h : ℕ} {n : Name} {p o c k q r : Position} {x y : Constant}
      → Is reference (suc h) (W.name n p ∷ sign open_bracket o ∷ W.constant x q ∷ sign colon k ∷ W.constant y r ∷ sign close_bracket c ∷ []) (expression (part n p (pair_of x q y r)))
  ref-two : {h : ℕ} {n : Name} {p o : Position} (c k : Position) {us vs : List Word} {e f : Expression}
      → Is boolean_exp h us (expression e) → Is boolean_exp h vs (expression f)
      → Is reference (suc h) (W.name n p ∷ sign open_bracket o ∷ (us ++ sign comma k ∷ (vs ++ sign close_bracket c ∷ []))) (expression (two n p e f))
  ref-two-apart : {h : ℕ} {n : Name} {p o : Position} (c k l : Position) {us vs : List Word} {e f : Expression}
      → Is boolean_exp h us (expression e) → Is boolean_exp h vs (expression f)
      → Is reference (suc h) (W.name n p ∷ sign open_bracket o ∷ (us ++ (between_subscripts k l ++ (vs ++ sign close_bracket c ∷ [])))) (expression (two n p e f))
  ref-word-part : {h : ℕ} {n : Name} {p o q r : Position} (c k l : Position) {us : List Word} {e : Expression} {x y : Constant}
      → Is boolean_exp h us (expression e)
      → Is reference (suc h) (W.name n p ∷ sign open_bracket o ∷ (us ++ sign comma k ∷ W.constant x q ∷ sign colon l ∷ W.constant y r ∷ sign close_bracket c ∷ []))
      (expression (word_part n p e (pair_of x q y r)))
  ref-word-part-apart : {h : ℕ} {n : Name} {p o q r : Position} (c k l m : Position) {us : List Word} {e : Expression} {x y : Constant}
      → Is boolean_exp h us (expression e)
      → Is reference (suc h) (W.name n p ∷ sign open_bracket o ∷ (us ++ (between_subscripts k m ++ (W.constant x q ∷ sign colon l ∷ W.constant y r ∷ sign close_bracket c ∷ []))))
      (expression (word_part n p e (pair_of x q y r)))
  -- boolean-exp, minterm, product, complement (5.2)
  or-one : {h : ℕ} {us : List Word} {t : Tree} → Is minterm h us t → Is boolean_exp h us t
  or-more : {h : ℕ} {us vs : List Word} {p : Position} {e f : Expression} → Is boolean_exp h us (expression e) → Is minterm h vs (expression f)
      → Is boolean_exp h (us ++ sign plus p ∷ vs) (expression (binary plus p e f))
  exclusive-one : {h : ℕ} {us : List Word} {t : Tree} → Is product h us t → Is minterm h us t
  exclusive-more : {h : ℕ} {us vs : List Word} {p : Position} {e f : Expression} → Is minterm h us (expression e) → Is product h vs (expression f)
      → Is minterm h (us ++ sign exclusive_sign p ∷ vs) (expression (binary exclusive_sign p e f))
  and_one : {h : ℕ} {us : List Word} {t : Tree} → Is complement h us t → Is product h us t
  and-more : {h : ℕ} {us vs : List Word} {p : Position} {e f : Expression} → Is product h us (expression e) → Is complement h vs (expression f)
      → Is product h (us ++ sign star p ∷ vs) (expression (binary star p e f))
  complement-none : {h : ℕ} {us : List Word} {t : Tree} → Is chain h us t → Is complement h us t
  complement-of : {h : ℕ} {us : List Word} {p : Position} {e : Expression} → Is chain h us (expression e)
      → Is complement (suc h) (sign minus p ∷ us) (expression (prefix minus p e))
  con-one : {h : ℕ} {us : List Word} {t : Tree} → Is reduction h us t → Is chain h us t
  con-more : {h : ℕ} {us vs : List Word} {p : Position} {e f : Expression} → Is chain h us (expression e) → Is reduction h vs (expression f)
      → Is chain h (us ++ sign con_word p ∷ vs) (expression (binary con_word p e f))
  -- reduction, adjustment, relation, arithmetic-exp (5.2)
  reduction-none : {h : ℕ} {us : List Word} {t : Tree} → Is adjustment h us t → Is reduction h us t
  reduction-of : {h : ℕ} {k : ℕ} {us : List Word} {p q : Position} {e : Expression} → is_reduction k ≡ true → Is adjustment h us (expression e)
      → Is reduction (suc h) (sign k p ∷ sign red_word q ∷ us) (expression (prefix k p e))
  cut-none : {h : ℕ} {us : List Word} {t : Tree} → Is relation h us t → Is adjustment h us t
  cut-more : {h : ℕ} {k : ℕ} {us : List Word} {p : Position} (q : Position) {e : Expression} {c : Constant} → is_cut k ≡ true → Is adjustment h us (expression e)
      → Is adjustment h (us ++ sign k p ∷ W.constant c q ∷ []) (expression (cut k p e c))
  relation-none : {h : ℕ} {us : List Word} {t : Tree} → Is arithmetic h us t → Is relation h us t
  relation-of : {h : ℕ} {k : ℕ} {us vs : List Word} {p : Position} {e f : Expression} → is_relation k ≡ true → Is arithmetic h us (expression e) → Is arithmetic h vs (expression f)
      → Is relation h (us ++ sign k p ∷ vs) (expression (binary k p e f))
  arithmetic-one : {h : ℕ} {us : List Word} {t : Tree} → Is term h us t → Is arithmetic h us t
  negation-of : {h : ℕ} {us : List Word} {p : Position} {e : Expression} → Is term h us (expression e)
      → Is arithmetic (suc h) (sign difference_sign p ∷ us) (expression (prefix difference_sign p e))
  arithmetic-more : {h : ℕ} {k : ℕ} {us vs : List Word} {p : Position} {e f : Expression} → is_arithmetic k ≡ true → Is arithmetic h us (expression e) → Is term h vs (expression f)
      → Is arithmetic h (us ++ sign k p ∷ vs) (expression (binary k p e f))
  -- term (5.1); a conditional expression has at least two arms
  term-reference : {h : ℕ} {us : List Word} {t : Tree} → Is reference h us t → Is term h us t
  term-constant : {h : ℕ} {c : Constant} {p : Position} → Is term h (W.constant c p ∷ []) (expression (constant c p))
  term-parens : {h : ℕ} {us : List Word} {p : Position} (q : Position) {t : Tree} → Is boolean_exp h us t → Is term (suc h) (sign open_paren p ∷ (us ++ sign close_paren q ∷ [])) t
  term-if : {h : ℕ} {us vs ws : List Word} {p : Position} (q r s : Position) {e f g : Expression}
      → Is boolean_exp h us (expression e) → Is boolean_exp h vs (expression f) → Is boolean_exp h ws (expression g)
      → Is term (suc h) (sign if_word p ∷ (us ++ sign then_word q ∷ (vs ++ sign else_word r ∷ (ws ++ sign end_if_word s ∷ [])))) (expression (choice p e (next_arm (first_arm f) g)))
  term-case : {h : ℕ} {us vs : List Word} {p : Position} (q : Position) {e f : Expression}
      → Is boolean_exp h us (expression e) → Is expression_arms h vs (expression f)
      → Is term (suc h) (sign case_word p ∷ (us ++ (vs ++ sign end_case_word q ∷ []))) (expression (choice p e f))
  arms-two : {h : ℕ} {us vs : List Word} {p : Position} (q : Position) {e f : Expression} → Is boolean_exp h us (expression e) → Is boolean_exp h vs (expression f)
      → Is expression_arms h (sign do_word p ∷ (us ++ sign do_word q ∷ vs)) (expression (next_arm (first_arm e) f))
  arms_next : {h : ℕ} {us vs : List Word} (p : Position) {e f : Expression} → Is expression_arms h us (expression e) → Is boolean_exp h vs (expression f)
      → Is expression_arms h (us ++ sign do_word p ∷ vs) (expression (next_arm e f))
  -- actions (7.1 and 8.2): stores only in operations; ->, => and RETURN only in states
  left_one : {h : ℕ} {us : List Word} {e : Expression} → Is reference h us (expression e) → Is left_side h us (left (T.single e))
  left-two : {h : ℕ} {us vs : List Word} (p : Position) {e f : Expression} → Is reference h us (expression e) → Is reference h vs (expression f)
      → Is left_side h (us ++ sign con_word p ∷ vs) (left (pair e f))
  act-store : {h : ℕ} {k : ℕ} {us vs ws : List Word} {p : Position} {l : Left} {e : Expression} {a : Actions} → is_store k ≡ true
      → Is left_side h us (left l) → Is boolean_exp h vs (expression e) → Is (rest in_operation) h ws (actions a)
      → Is (action_list in_operation) h (us ++ sign k p ∷ (vs ++ ws)) (actions (T.store k p l e a))
  act-set : {h : ℕ} {s : Section} {us ws : List Word} {p : Position} {e : Expression} {a : Actions} → Is reference h us (expression e) → Is (rest s) h ws (actions a)
      → Is (action_list s) h (us ++ sign at_sign p ∷ ws) (actions (T.set p e a))
  act-perform : {h : ℕ} {s : Section} {n : Name} {p : Position} {ws : List Word} {a : Actions} → Is (rest s) h ws (actions a)
      → Is (action_list s) h (W.name n p ∷ ws) (actions (T.perform n p a))
  act-goto : {h : ℕ} {n : Name} {p q : Position} {ws : List Word} {a : Actions} → Is (rest in_state) h ws (actions a)
      → Is (action_list in_state) h (sign goto_sign p ∷ W.name n q ∷ ws) (actions (T.goto n q a))
  act-call : {h : ℕ} {n : Name} {p q : Position} {ws : List Word} {a : Actions} → Is (rest in_state) h ws (actions a)
      → Is (action_list in_state) h (sign call_sign p ∷ W.name n q ∷ ws) (actions (T.call n q a))
  act-return : {h : ℕ} {p : Position} {ws : List Word} {a : Actions} → Is (rest in_state) h ws (actions a)
      → Is (action_list in_state) h (sign return_word p ∷ ws) (actions (T.return p a))
  act-when : {h : ℕ} {s : Section} {us vs ws : List Word} {p : Position} (r : Position) (q : Position) {e : Expression} {a b : Actions}
      → Is boolean_exp h us (expression e) → Is (action_list s) h vs (actions a) → Is (rest s) (suc h) ws (actions b)
      → Is (action_list s) (suc h) (sign if_word p ∷ (us ++ sign then_word q ∷ (vs ++ sign end_if_word r ∷ ws))) (actions (T.when p e a b))
  act-if : {h : ℕ} {s : Section} {us vs xs ws : List Word} {p : Position} (t : Position) (r : Position) (q : Position) {e : Expression} {a b c : Actions}
      → Is boolean_exp h us (expression e) → Is (action_list s) h vs (actions a) → Is (action_list s) h xs (actions b) → Is (rest s) (suc h) ws (actions c)
      → Is (action_list s) (suc h) (sign if_word p ∷ (us ++ sign then_word q ∷ (vs ++ sign else_word r ∷ (xs ++ sign end_if_word t ∷ ws)))) (actions (T.choose p e (T.arm a (T.arm b T.done)) c))
  act-case : {h : ℕ} {s : Section} {us vs ws : List Word} {p : Position} (q : Position) {e : Expression} {a b : Actions}
      → Is boolean_exp h us (expression e) → Is (arms s) h vs (actions a) → Is (rest s) (suc h) ws (actions b)
      → Is (action_list s) (suc h) (sign case_word p ∷ (us ++ (vs ++ sign end_case_word q ∷ ws))) (actions (T.choose p e a b))
  rest-none : {h : ℕ} {s : Section} → Is (rest s) h [] (actions T.done)
  rest_more : {h : ℕ} {s : Section} {us : List Word} {p : Position} {a : Actions} → Is (action_list s) h us (actions a) → Is (rest s) h (sign comma p ∷ us) (actions a)
  arms-one : {h : ℕ} {s : Section} {us vs : List Word} {p : Position} {a b : Actions} → Is (action_list s) h us (actions a) → Is (more_arms s) h vs (actions b)
      → Is (arms s) h (sign do_word p ∷ (us ++ vs)) (actions (T.arm a b))
  arms_end : {h : ℕ} {s : Section} → Is (more_arms s) h [] (actions T.done)
  arms_more : {h : ℕ} {s : Section} {us : List Word} {a : Actions} → Is (arms s) h us (actions a) → Is (more_arms s) h us (actions a)
  -- bounds (4.1): the first may be left out and is then one
  range-both : {h : ℕ} {c d : Constant} {p q r : Position} → Is range h (W.constant c p ∷ sign colon q ∷ W.constant d r ∷ []) (ends (pair_of c p d r))
  range_last : {h : ℕ} {d : Constant} {p : Position} → Is range h (W.constant d p ∷ []) (ends (pair_of one_bound p d p))
  no-dimension : {h : ℕ} → Is dimensions h [] (extent T.single)
  one-dimension : {h : ℕ} {us : List Word} {p : Position} (q : Position) {x : Ends} → Is range h us (ends x)
      → Is dimensions (suc h) (sign open_bracket p ∷ (us ++ sign close_bracket q ∷ [])) (extent (row x))
  two-dimensions : {h : ℕ} {us vs : List Word} {p : Position} (q r : Position) {x y : Ends} → Is range h us (ends x) → Is range h vs (ends y)
      → Is dimensions (suc h) (sign open_bracket p ∷ (us ++ sign comma q ∷ (vs ++ sign close_bracket r ∷ []))) (extent (table x y))
  -- register-spec, memory-spec (4.1, 4.2), terminal-spec (6): a terminal with a function has at most one dimension
  a-register : {h : ℕ} {n : Name} {p : Position} {us : List Word} {x : Extent} → Is dimensions h us (extent x)
      → Is register_spec h (W.name n p ∷ us) (facility (as_declared register n p x unspecified))
  a-sequencing : {h : ℕ} {n : Name} {p q : Position} {us : List Word} {x : Extent} → Is dimensions h us (extent x)
      → Is register_spec h (sign hash q ∷ W.name n p ∷ us) (facility (as_declared sequencing n p x unspecified))
  a_memory : {h : ℕ} {n : Name} {p : Position} {us : List Word} {x : Extent} → Is dimensions h us (extent x)
      → Is memory_spec h (W.name n p ∷ us) (facility (as_declared memory n p x unspecified))
  a-terminal : {h : ℕ} {n : Name} {p : Position} {us : List Word} {x : Extent} → Is dimensions h us (extent x)
      → Is terminal_spec h (W.name n p ∷ us) (facility (as_declared plain n p x unspecified))
  an-input : {h : ℕ} {n : Name} {p : Position} {us : List Word} {x : Extent} (q r s t u v w : Position) (c : Constant) → AtMostOne x → Is dimensions (suc h) us (extent x)
      → Is terminal_spec (suc h) (W.name n p ∷ (us ++ sign equal_sign q ∷ sign input_word r ∷ sign open_paren s ∷ W.constant c t ∷ sign comma u ∷ W.name n v ∷ sign close_paren w ∷ []))
      (facility (as_declared input n p x from_input))
  a-computed : {h : ℕ} {n : Name} {p q : Position} {us vs : List Word} {x : Extent} {e : Expression} → AtMostOne x → Is dimensions h us (extent x) → Is boolean_exp h vs (expression e)
      → Is terminal_spec h (W.name n p ∷ (us ++ sign equal_sign q ∷ vs)) (facility (as_declared computed n p x (given q e)))
  -- lists of declarations and their sections (3, 4 and 6)
  registers-one : {h : ℕ} {us : List Word} {d : Declaration} → Is register_spec h us (facility d) → Is register_specs h us (facilities (d ∷ []))
  registers-more : {h : ℕ} {us vs : List Word} {d : Declaration} {ds : List Declaration} (p : Position) → Is register_spec h us (facility d) → Is register_specs h vs (facilities ds)
      → Is register_specs h (us ++ sign comma p ∷ vs) (facilities (d ∷ ds))
  memories-one : {h : ℕ} {us : List Word} {d : Declaration} → Is memory_spec h us (facility d) → Is memory_specs h us (facilities (d ∷ []))
  memories-more : {h : ℕ} {us vs : List Word} {d : Declaration} {ds : List Declaration} (p : Position) → Is memory_spec h us (facility d) → Is memory_specs h vs (facilities ds)
      → Is memory_specs h (us ++ sign comma p ∷ vs) (facilities (d ∷ ds))
  terminals-one : {h : ℕ} {us : List Word} {d : Declaration} → Is terminal_spec h us (facility d) → Is terminal_specs h us (facilities (d ∷ []))
  terminals-more : {h : ℕ} {us vs : List Word} {d : Declaration} {ds : List Declaration} (p : Position) → Is terminal_spec h us (facility d) → Is terminal_specs h vs (facilities ds)
      → Is terminal_specs h (us ++ sign comma p ∷ vs) (facilities (d ∷ ds))
  an-ending : {h : ℕ} {k : ℕ} {p : Position} → ends_section k ≡ true → Is ending h (sign k p ∷ []) nothing
  register-section : {h : ℕ} {us vs : List Word} {p : Position} {ds : List Declaration} → Is register_specs h us (facilities ds) → Is ending h vs nothing
      → Is register_section h (sign register_word p ∷ (us ++ vs)) (facilities ds)
  memory-section : {h : ℕ} {us vs : List Word} {p : Position} {ds : List Declaration} → Is memory_specs h us (facilities ds) → Is ending h vs nothing
      → Is memory_section h (sign memory_word p ∷ (us ++ vs)) (facilities ds)
  terminal-section : {h : ℕ} {us vs : List Word} {p : Position} {ds : List Declaration} → Is terminal_specs h us (facilities ds) → Is ending h vs nothing
      → Is terminal_section h (sign terminal_word p ∷ (us ++ vs)) (facilities ds)
  no-memories : {h : ℕ} → Is memory_option h [] (facilities [])
  some-memories : {h : ℕ} {us : List Word} {t : Tree} → Is memory_section h us t → Is memory_option h us t
  no-terminals : {h : ℕ} → Is terminal_option h [] (facilities [])
  some-terminals : {h : ℕ} {us : List Word} {t : Tree} → Is terminal_section h us t → Is terminal_option h us t
  with-registers : {h : ℕ} {us vs ws : List Word} {rs ms ts : List Declaration} → Is register_section h us (facilities rs) → Is memory_option h vs (facilities ms) → Is terminal_option h ws (facilities ts)
      → Is declaration h (us ++ (vs ++ ws)) (declared rs ms ts)
  with-memories : {h : ℕ} {us vs : List Word} {ms ts : List Declaration} → Is memory_section h us (facilities ms) → Is terminal_option h vs (facilities ts)
      → Is declaration h (us ++ vs) (declared [] ms ts)
  with-terminals : {h : ℕ} {us : List Word} {ts : List Declaration} → Is terminal_section h us (facilities ts) → Is declaration h us (declared [] [] ts)
  -- the operation section (7.2): the period after the last operation is optional
  operations-one : {h : ℕ} {n : Name} {p : Position} {us : List Word} {a : Actions} (q r s : Position) → Is (action_list in_operation) h us (actions a)
      → Is operation_defs (suc h) (W.name n p ∷ sign equal_sign q ∷ sign open_bracket r ∷ (us ++ sign close_bracket s ∷ [])) (operations (operation_of n p a ∷ []))
  operations-more : {h : ℕ} {n : Name} {p : Position} {us vs : List Word} {a : Actions} {os : List Operation} (q r s t : Position) → Is (action_list in_operation) h us (actions a) → Is operation_defs (suc h) vs (operations os)
      → Is operation_defs (suc h) (W.name n p ∷ sign equal_sign q ∷ sign open_bracket r ∷ (us ++ sign close_bracket s ∷ sign comma t ∷ vs)) (operations (operation_of n p a ∷ os))
  no-ending : {h : ℕ} → Is optional_ending h [] nothing
  some-ending : {h : ℕ} {us : List Word} → Is ending h us nothing → Is optional_ending h us nothing
  no-operations : {h : ℕ} → Is operation_section h [] (operations [])
  some-operations : {h : ℕ} {us vs : List Word} {p : Position} {os : List Operation} → Is operation_defs h us (operations os) → Is optional_ending h vs nothing
      → Is operation_section h (sign operation_word p ∷ (us ++ vs)) (operations os)
  -- the control section (8.1): its ending is not optional
  no_label : {h : ℕ} → Is state_label h [] (label none none)
  plain_label : {h : ℕ} {n : Name} {p q : Position} → Is state_label h (W.name n p ∷ sign colon q ∷ []) (label (some (record { name = n; at = p })) none)
  label-with-value : {h : ℕ} {n : Name} {c : Constant} {p q r s t : Position}
      → Is state_label (suc h) (W.name n p ∷ sign open_paren q ∷ W.constant c r ∷ sign close_paren s ∷ sign colon t ∷ []) (label (some (record { name = n; at = p })) (some (record { constant = c; at = r })))
  states-one : {h : ℕ} {us : List Word} {s : State} → Is state_def h us (states (s ∷ [])) → Is state_defs h us (states (s ∷ []))
  states-more : {h : ℕ} {us vs : List Word} {s : State} {ss : List State} → Is state_def h us (states (s ∷ [])) → Is state_defs h vs (states ss) → Is state_defs h (us ++ vs) (states (s ∷ ss))
  state-idle : {h : ℕ} {us : List Word} {l : Option Label} {v : Option StateValue} (p : Position) → Is state_label h us (label l v)
      → Is state_def h (us ++ sign slash p ∷ []) (states (state_of (first_place us p) l v T.done ∷ []))
  state-acting : {h : ℕ} {us vs : List Word} {l : Option Label} {v : Option StateValue} (p : Position) {a : Actions} → Is state_label h us (label l v) → Is (action_list in_state) h vs (actions a)
      → Is state_def h (us ++ (vs ++ sign slash p ∷ [])) (states (state_of (first_place (us ++ vs) p) l v a ∷ []))
  control-section : {h : ℕ} {us vs : List Word} {p : Position} {ss : List State} → Is state_defs h us (states ss) → Is ending h vs nothing
      → Is control_section h (sign control_word p ∷ (us ++ vs)) (states ss)
  -- the whole (3); one $ may follow
  no-dollar : {h : ℕ} → Is dollar_option h [] nothing
  some-dollar : {h : ℕ} {p : Position} → Is dollar_option h (sign dollar p ∷ []) nothing
  whole-text : {h : ℕ} {us vs ws xs : List Word} {rs ms ts : List Declaration} {os : List Operation} {ss : List State}
      → Is declaration h us (declared rs ms ts) → Is operation_section h vs (operations os) → Is control_section h ws (states ss) → Is dollar_option h xs nothing
      → Is whole_text h (us ++ (vs ++ (ws ++ xs))) (text (record { registers = rs; memories = ms; terminals = ts; operations = os; states = ss }))

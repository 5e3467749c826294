-- What it is that the machine takes the words of actions: they go to the end of the list that is open.
use Rattle.std.specs.Prelude.{false, List, [], ◌∷◌, ◌++◌, ◌≡◌, refl, ℕ, suc, ◌-◌}
use Rattle.language.specs.Alternatives.{closing, lead, no_step, plain_word}
use Rattle.language.specs.Building.{Built, begin_list, joined, keep_word, make_arm, make_choose, make_if, make_when, with_lists}
use Rattle.language.specs.CountedWords.{counted_actions}
use Rattle.language.specs.Kinds.{a_name, at_sign, case_word, colon, comma, delayed_sign, do_word, else_word, end_case_word, end_if_word, end_word, equal_sign, if_word, open_paren, period, slash, then_word}
use Rattle.language.specs.Machine as M
use Rattle.language.specs.Machine.{Ask, Counts, Reading, ask, choose, counted, feed, make, more, nested, operation_action, operation_arms, operation_if_rest, operation_more, operation_name, reading, run, state_action, state_arms, state_if_rest, state_more, state_name, state_rest, tallied}
use Rattle.language.specs.Notions.{Section, in_operation, in_state}
use Rattle.language.specs.SectionWays.{rule_of}
use Rattle.language.specs.Tree.{Actions}
use Rattle.language.specs.Words as W
use Rattle.language.specs.Words.{Position, Word, sign}
use Rattle.about_grammar.specs.Courses.{Ceiling, Comes, Room, Stack, Under, asking, comes, ends-in, took_it}
use Rattle.about_grammar.specs.Following.{Follows, after_or, among, follows-left, follows-right}
use Rattle.about_grammar.specs.Operators.{leaving}
use Rattle.about_grammar.specs.Taking.{Arrives, Heads}

-- The machine's notions, by where the actions stand.
abbrev pub action_of : Section → Ask
action_of in_operation = operation_action
action_of in_state = state_action

abbrev pub more_of : Section → Ask
more_of in_operation = operation_more
more_of in_state = state_more

abbrev pub name_of : Section → Ask
name_of in_operation = operation_name
name_of in_state = state_name

abbrev pub if_rest_of : Section → Ask
if_rest_of in_operation = operation_if_rest
if_rest_of in_state = state_if_rest

abbrev pub arms_of : Section → Ask
arms_of in_operation = operation_arms
arms_of in_state = state_arms

abbrev pub after_action : List ℕ
after_action = colon ∷ open_paren ∷ delayed_sign ∷ equal_sign ∷ at_sign ∷ after_or

abbrev pub after_list : List ℕ
after_list = comma ∷ after_action

abbrev pub deeper : Counts → Counts
deeper c = nested (suc c.nesting) c

abbrev pub back : Counts → Counts
back c = nested (c.nesting - 1) c

-- How an action begins: a name with no label's word behind it, or a sign that ends no state and no section.
abbrev pub Started : List Word → Type 0
Started [] = ⊥
Started (W.name n p ∷ us) = Follows (colon ∷ open_paren ∷ []) us
Started (W.constant c p ∷ us) = ⊥
Started (W.sign k p ∷ us) = among k (slash ∷ a_name ∷ period ∷ end_word ∷ []) ≡ false

-- A tail of lists: a comma leads to one more action.
pub record Tail (C : Ceiling) (s : Section) (a : Ask) : Type 0 where
  pub at-comma : {K : Stack} {b : Built} {c : Counts} {p : Position} → Under C.top c
      → Comes C [] (ask a ∷ K) (reading b c) (sign comma p ∷ []) (ask (action_of s) ∷ ask a ∷ K) (reading b c)

pub record Acting (C : Ceiling) (s : Section) (h : ℕ) (us : List Word) (a : Actions) : Type 0 where
  pub starts : (vs : List Word) → Follows after_action vs → Started (us ++ vs)
  pub takes : {t : Ask} → Tail C s t → (K : Stack) (b : Built) (c : Counts) (l : Actions) (ls : List Actions) → Room C.top c (counted_actions a) h
      → Arrives C after_action (ask (action_of s) ∷ ask t ∷ K) (with_lists b (l ∷ ls)) c us (ask t ∷ K) (with_lists b (joined l a ∷ ls)) (counted_actions a)

-- The rest of a list.
pub record Resting (C : Ceiling) (s : Section) (h : ℕ) (us : List Word) (a : Actions) : Type 0 where
  pub follows : (vs : List Word) → Follows after_action vs → Follows after_action (us ++ vs)
  pub takes : {t : Ask} → Tail C s t → (K : Stack) (b : Built) (c : Counts) (l : Actions) (ls : List Actions) → Room C.top c (counted_actions a) h
      → Arrives C after_action (ask t ∷ K) (with_lists b (l ∷ ls)) c us (ask t ∷ K) (with_lists b (joined l a ∷ ls)) (counted_actions a)

-- The arms of CASE, from the first DO on, and those after the first.
pub record Armed (C : Ceiling) (s : Section) (h : ℕ) (us : List Word) (a : Actions) : Type 0 where
  pub heads : Heads after_list us
  pub takes : (K : Stack) (b : Built) (c : Counts) (l : Actions) (ls : List Actions) → Room C.top c (counted_actions a) h
      → Arrives C after_list (plain_word do_word ∷ make begin_list ∷ ask (action_of s) ∷ ask (more_of s) ∷ make make_arm ∷ ask (arms_of s) ∷ K) (with_lists b (l ∷ ls)) c us (ask (arms_of s) ∷ K) (with_lists b (joined l a ∷ ls)) (counted_actions a)
  pub takes-more : (K : Stack) (b : Built) (c : Counts) (l : Actions) (ls : List Actions) → Room C.top c (counted_actions a) h
      → Arrives C after_list (ask (arms_of s) ∷ K) (with_lists b (l ∷ ls)) c us (ask (arms_of s) ∷ K) (with_lists b (joined l a ∷ ls)) (counted_actions a)

pub record MoreArmed (C : Ceiling) (s : Section) (h : ℕ) (us : List Word) (a : Actions) : Type 0 where
  pub follows : (vs : List Word) → Follows after_list vs → Follows after_list (us ++ vs)
  pub takes : (K : Stack) (b : Built) (c : Counts) (l : Actions) (ls : List Actions) → Room C.top c (counted_actions a) h
      → Arrives C after_list (ask (arms_of s) ∷ K) (with_lists b (l ∷ ls)) c us (ask (arms_of s) ∷ K) (with_lists b (joined l a ∷ ls)) (counted_actions a)

-- ---- The words of lists and conditionals.

pub more-tail : (C : Ceiling) (s : Section) → Tail C s (more_of s)
unfolding run feed choose rule_of tallied
more-tail C in_operation = record { at-comma = λ u. comes (λ ws end _. took_it C _ _ _ _ u _) }
more-tail C in_state = record { at-comma = λ u. comes (λ ws end _. took_it C _ _ _ _ u _) }

pub rest-tail : (C : Ceiling) → Tail C in_state state_rest
unfolding run feed choose rule_of tallied
rest-tail C = record { at-comma = λ u. comes (λ ws end _. took_it C _ _ _ _ u _) }

pub no_more : {C : Ceiling} (s : Section) {K : Stack} {b : Built} {c : Counts} → Comes C (comma ∷ []) (ask (more_of s) ∷ K) (reading b c) [] K (reading b c)
unfolding rule_of
no_more in_operation = leaving (lead comma (ask operation_action ∷ ask operation_more ∷ []) ∷ []) no_step refl (λ _. refl)
no_more in_state = leaving (lead comma (ask state_action ∷ ask state_more ∷ []) ∷ []) no_step refl (λ _. refl)

module _ {C : Ceiling} {K : Stack} {b : Built} {c : Counts} {p : Position} where
  pub if_word_lem : (s : Section) → Under C.top (deeper (more counted c))
      → Comes C [] (ask (action_of s) ∷ K) (reading b c) (sign if_word p ∷ []) (ask M.expression ∷ plain_word then_word ∷ make begin_list ∷ ask (action_of s) ∷ ask (more_of s) ∷ ask (if_rest_of s) ∷ K) (reading (keep_word (sign if_word p) b) (deeper (more counted c)))
  unfolding run feed choose rule_of tallied
  if_word_lem in_operation u = comes (λ ws end _. took_it C _ _ _ _ u _)
  if_word_lem in_state u = comes (λ ws end _. took_it C _ _ _ _ u _)

  pub end-if-word : (s : Section) → Under C.top (back c) → Comes C [] (ask (if_rest_of s) ∷ K) (reading b c) (sign end_if_word p ∷ []) (make make_when ∷ K) (reading b (back c))
  unfolding run feed choose rule_of tallied
  end-if-word in_operation u = comes (λ ws end _. took_it C _ _ _ _ u _)
  end-if-word in_state u = comes (λ ws end _. took_it C _ _ _ _ u _)

  pub else-word : (s : Section) → Under C.top c
      → Comes C [] (ask (if_rest_of s) ∷ K) (reading b c) (sign else_word p ∷ []) (make begin_list ∷ ask (action_of s) ∷ ask (more_of s) ∷ closing end_if_word ∷ make make_if ∷ K) (reading b c)
  unfolding run feed choose rule_of tallied
  else-word in_operation u = comes (λ ws end _. took_it C _ _ _ _ u _)
  else-word in_state u = comes (λ ws end _. took_it C _ _ _ _ u _)

  pub case-word : (s : Section) → Under C.top (deeper (more counted c))
      → Comes C [] (ask (action_of s) ∷ K) (reading b c) (sign case_word p ∷ [])
      (ask M.expression ∷ make begin_list ∷ plain_word do_word ∷ make begin_list ∷ ask (action_of s) ∷ ask (more_of s) ∷ make make_arm ∷ ask (arms_of s) ∷ closing end_case_word ∷ make make_choose ∷ K)
      (reading (keep_word (sign case_word p) b) (deeper (more counted c)))
  unfolding run feed choose rule_of tallied
  case-word in_operation u = comes (λ ws end _. took_it C _ _ _ _ u _)
  case-word in_state u = comes (λ ws end _. took_it C _ _ _ _ u _)

  pub do-word : (s : Section) → Under C.top c
      → Comes C [] (ask (arms_of s) ∷ K) (reading b c) (sign do_word p ∷ []) (make begin_list ∷ ask (action_of s) ∷ ask (more_of s) ∷ make make_arm ∷ ask (arms_of s) ∷ K) (reading b c)
  unfolding run feed choose rule_of tallied
  do-word in_operation u = comes (λ ws end _. took_it C _ _ _ _ u _)
  do-word in_state u = comes (λ ws end _. took_it C _ _ _ _ u _)

pub no-arms : {C : Ceiling} (s : Section) {K : Stack} {b : Built} {c : Counts} → Comes C (do_word ∷ []) (ask (arms_of s) ∷ K) (reading b c) [] K (reading b c)
unfolding rule_of
no-arms in_operation = leaving (lead do_word (make begin_list ∷ ask operation_action ∷ ask operation_more ∷ make make_arm ∷ ask operation_arms ∷ []) ∷ []) no_step refl (λ _. refl)
no-arms in_state = leaving (lead do_word (make begin_list ∷ ask state_action ∷ ask state_more ∷ make make_arm ∷ ask state_arms ∷ []) ∷ []) no_step refl (λ _. refl)

-- A list ends where no comma follows.
pub list_done : {C : Ceiling} (s : Section) {K L : Stack} {r : Reading Built} {us : List Word} {b : Built} {c : Counts} → Comes C after_action K r us (ask (more_of s) ∷ L) (reading b c) → Comes C after_list K r us L (reading b c)
list_done s x = ends-in x (λ ws f. follows-right (comma ∷ []) after_action ws f) (asking (λ ws f. follows-left (comma ∷ []) after_action ws f) (no_more s))

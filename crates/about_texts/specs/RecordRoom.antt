-- The room that a text's records take: at most 56 bytes of expression and action records for each counted word, and 48 for each state's value (docs/IMAGE.md). By induction over the derivation, a line for each rule. Assumes nothing.
use Rattle.std.specs.Prelude.{Bool, true, false, cond, List, [], ◌∷◌, ◌++◌, ◌≡◌, refl, ℕ, ◌+◌, ◌-◌, ◌*◌, ◌≤◌, leb, ltb, length}
use Rattle.std.proofs.Math.Option.{Option, none, some}
use native.Mathlib.Omega.{arith}
use Rattle.std.proofs.Common.{leb-true}
use Rattle.language.specs.CountedWords.{counted_actions, counted_expression, counted_function, counted_left, counted_operations, counted_reference, counted_states, counted_terminals}
use Rattle.language.specs.Describe.{actions_in, constant_size, expression_size, expressions_in, left_size}
use Rattle.language.specs.DescribeText.{function_size, function_sizes, length_at, operation_expressions, operation_records, state_constant, value_size}
use Rattle.language.specs.Description.{Facility, digit_length, further_digits}
use Rattle.language.specs.Encode.{action_size, node_size}
use Rattle.language.specs.Grammar as G
use Rattle.language.specs.Grammar.{Is}
use Rattle.language.specs.Image.{ConstantRight, WordsRight}
use Rattle.language.specs.Notions as N
use Rattle.language.specs.Notions.{Notion, Tree}
use Rattle.language.specs.Tree.{Declaration, Expression}
use Rattle.language.specs.Value.{Value, value}
use Rattle.language.specs.Ceilings.{longest}
use Rattle.language.specs.Words.{Constant, Word}
use Rattle.about_rules.specs.InOrder.{state_expressions}
use Rattle.about_rules.specs.Runs.{state_records}
use Rattle.about_rules.specs.Tidy.{words_left, words_right}

-- Seven expression records for a counted word: six for a constant of 256 bits, and one for the arm that it is. Six for a state's value.
abbrev pub word_room : ℕ
word_room = 7 * node_size

abbrev pub value_room : ℕ
value_room = 6 * node_size

-- ---- Constants.

constant-room : (v : Value) → v.length ≤ longest → node_size * constant_size v ≤ value_room
unfolding constant_size further_digits digit_length longest
constant-room v h = omega arith

-- The length that the sequencing register lends to values of states.
abbrev pub Lent : Option ℕ → Type 0
Lent none = Unit {0}
Lent (some l) = l ≤ longest

pub lent-so : (fs : List Facility) (n : Option ℕ) → Lent (length_at fs n)
lent-so fs none = tt
lent-so fs (some n) = go _ (leb _ longest) refl
  where
    go : (l : ℕ) (b : Bool) → leb l longest ≡ b → Lent (cond b (some l) none)
    go l true e = leb-true l longest e
    go l false e = tt

state-constant : (l : Option ℕ) (c : Constant) → Lent l → ConstantRight c → (state_constant l c).length ≤ longest
unfolding state_constant
state-constant none c h r = r.at-most
state-constant (some l) c h r = go c.bare (ltb c.value.number _)
  where
    go : (a b : Bool) → (cond a (cond b (value l c.value.number) c.value) c.value).length ≤ longest
    go true true = h
    go true false = r.at-most
    go false b = r.at-most

-- ---- Trees, with the length that is lent to values of states.

sizes-append : (xs ys : List Declaration) → (function_sizes (xs ++ ys) ≡ function_sizes xs + function_sizes ys) × (counted_terminals (xs ++ ys) ≡ counted_terminals xs + counted_terminals ys)
unfolding function_sizes counted_terminals
sizes-append [] ys = (omega arith, omega arith)
sizes-append (x ∷ xs) ys = let h = sizes-append xs ys in (omega (arith, h.0), omega (arith, h.1))

module _ (l : Option ℕ) where
  -- The bytes of its expression and action records.
  abbrev pub room_of : Tree → ℕ
  room_of (N.expression e) = node_size * expression_size e
  room_of (N.left x) = node_size * left_size x
  room_of (N.actions a) = node_size * expressions_in a + action_size * actions_in a
  room_of (N.ends x) = 0
  room_of (N.extent x) = 0
  room_of (N.facility d) = node_size * function_size d.function
  room_of (N.facilities ds) = node_size * function_sizes ds
  room_of (N.declared rs ms ts) = node_size * function_sizes (rs ++ (ms ++ ts))
  room_of (N.operations os) = node_size * operation_expressions os + action_size * operation_records os
  room_of (N.label n v) = node_size * value_size l v
  room_of (N.states ss) = node_size * state_expressions l ss + action_size * state_records ss
  room_of (N.text t) =
      node_size * function_sizes (t.registers ++ (t.memories ++ t.terminals)) + (node_size * operation_expressions t.operations + action_size * operation_records t.operations)
      + (node_size * state_expressions l t.states + action_size * state_records t.states)
  room_of N.nothing = 0

-- Its counted words.
abbrev pub counted_of : Tree → ℕ
counted_of (N.expression e) = counted_expression e
counted_of (N.left x) = counted_left x
counted_of (N.actions a) = counted_actions a
counted_of (N.ends x) = 0
counted_of (N.extent x) = 0
counted_of (N.facility d) = counted_function d.function
counted_of (N.facilities ds) = counted_terminals ds
counted_of (N.declared rs ms ts) = counted_terminals (rs ++ (ms ++ ts))
counted_of (N.operations os) = counted_operations os
counted_of (N.label n v) = 0
counted_of (N.states ss) = counted_states ss
counted_of (N.text t) = counted_terminals (t.registers ++ (t.memories ++ t.terminals)) + counted_operations t.operations + counted_states t.states
counted_of N.nothing = 0

-- What is not counted: the references of a left side, and the values of states.
abbrev pub uncounted : Tree → ℕ
uncounted (N.expression e) = 0
uncounted (N.left x) = 2 * node_size
uncounted (N.actions a) = 0
uncounted (N.ends x) = 0
uncounted (N.extent x) = 0
uncounted (N.facility d) = 0
uncounted (N.facilities ds) = 0
uncounted (N.declared rs ms ts) = 0
uncounted (N.operations os) = 0
uncounted (N.label n v) = value_room
uncounted (N.states ss) = value_room * length ss
uncounted (N.text t) = value_room * length t.states
uncounted N.nothing = 0

-- What a notion leaves for the arm that it may be: a reference takes one record, an expression leaves room for one, and so does a list of actions.
abbrev left_over : Notion → ℕ
left_over N.reference = word_room - node_size
left_over N.boolean_exp = node_size
left_over N.minterm = node_size
left_over N.product = node_size
left_over N.complement = node_size
left_over N.chain = node_size
left_over N.reduction = node_size
left_over N.adjustment = node_size
left_over N.relation = node_size
left_over N.arithmetic = node_size
left_over N.term = node_size
left_over N.expression_arms = 0
left_over N.range = 0
left_over N.dimensions = 0
left_over N.left_side = 0
left_over (N.action_list s) = action_size
left_over (N.rest s) = 0
left_over (N.arms s) = 0
left_over (N.more_arms s) = 0
left_over N.register_spec = 0
left_over N.memory_spec = 0
left_over N.terminal_spec = 0
left_over N.register_specs = 0
left_over N.memory_specs = 0
left_over N.terminal_specs = 0
left_over N.register_section = 0
left_over N.memory_section = 0
left_over N.terminal_section = 0
left_over N.memory_option = 0
left_over N.terminal_option = 0
left_over N.declaration = 0
left_over N.operation_defs = 0
left_over N.operation_section = 0
left_over N.state_label = 0
left_over N.state_def = 0
left_over N.state_defs = 0
left_over N.control_section = 0
left_over N.ending = 0
left_over N.optional_ending = 0
left_over N.dollar_option = 0
left_over N.whole_text = 0

-- A left side counts what its subscripts do, an operand itself besides.
reference-counts : {h : ℕ} {us : List Word} {e : Expression} → Is N.reference h us (N.expression e) → counted_expression e ≡ counted_reference e + 1
unfolding counted_expression
reference-counts G.ref-whole = refl
reference-counts (G.ref-one c x) = omega arith
reference-counts G.ref-part = refl
reference-counts (G.ref-two c k x y) = omega arith
reference-counts (G.ref-two-apart c k l x y) = omega arith
reference-counts (G.ref-word-part c k l x) = omega arith
reference-counts (G.ref-word-part-apart c k l m x) = omega arith

module _ (l : Option ℕ) (fits : Lent l) where
  pub room : {n : Notion} {h : ℕ} {us : List Word} {t : Tree} → Is n h us t → WordsRight us → room_of l t + left_over n ≤ word_room * counted_of t + uncounted t
  unfolding expression_size expressions_in actions_in counted_expression counted_actions counted_terminals counted_operations counted_states function_sizes operation_expressions operation_records state_expressions state_records
  room G.ref-whole w = omega arith
  room (G.ref-one c {us = us} x) w = omega (arith, room x (words_left us _ w.1.1))
  room G.ref-part w = omega arith
  room (G.ref-two c k {us = us} {vs = vs} x y) w = omega (arith, room x (words_left us _ w.1.1), room y (words_left vs _ (words_right us _ w.1.1).1))
  room (G.ref-two-apart c k o {us = us} {vs = vs} x y) w = omega (arith, room x (words_left us _ w.1.1), room y (words_left vs _ (words_right us _ w.1.1).1.1))
  room (G.ref-word-part c k o {us = us} x) w = omega (arith, room x (words_left us _ w.1.1))
  room (G.ref-word-part-apart c k o m {us = us} x) w = omega (arith, room x (words_left us _ w.1.1))
  room (G.or-one x) w = omega (arith, room x w)
  room (G.or-more {us = us} x y) w = omega (arith, room x (words_left us _ w), room y (words_right us _ w).1)
  room (G.exclusive-one x) w = omega (arith, room x w)
  room (G.exclusive-more {us = us} x y) w = omega (arith, room x (words_left us _ w), room y (words_right us _ w).1)
  room (G.and_one x) w = omega (arith, room x w)
  room (G.and-more {us = us} x y) w = omega (arith, room x (words_left us _ w), room y (words_right us _ w).1)
  room (G.complement-none x) w = omega (arith, room x w)
  room (G.complement-of x) w = omega (arith, room x w.1)
  room (G.con-one x) w = omega (arith, room x w)
  room (G.con-more {us = us} x y) w = omega (arith, room x (words_left us _ w), room y (words_right us _ w).1)
  room (G.reduction-none x) w = omega (arith, room x w)
  room (G.reduction-of e x) w = omega (arith, room x w.1.1)
  room (G.cut-none x) w = omega (arith, room x w)
  room (G.cut-more {us = us} q e x) w = omega (arith, room x (words_left us _ w))
  room (G.relation-none x) w = omega (arith, room x w)
  room (G.relation-of {us = us} e x y) w = omega (arith, room x (words_left us _ w), room y (words_right us _ w).1)
  room (G.arithmetic-one x) w = omega (arith, room x w)
  room (G.negation-of x) w = omega (arith, room x w.1)
  room (G.arithmetic-more {us = us} e x y) w = omega (arith, room x (words_left us _ w), room y (words_right us _ w).1)
  room (G.term-reference x) w = omega (arith, room x w)
  room (G.term-constant {c = c}) w = omega (arith, constant-room c.value w.0.at-most)
  room (G.term-parens {us = us} q x) w = omega (arith, room x (words_left us _ w.1))
  room (G.term-if {us = us} {vs = vs} {ws = ws} q r s x y z) w = let v = (words_right us _ w.1).1 in omega (arith, room x (words_left us _ w.1), room y (words_left vs _ v), room z (words_left ws _ (words_right vs _ v).1))
  room (G.term-case {us = us} {vs = vs} q x y) w = omega (arith, room x (words_left us _ w.1), room y (words_left vs _ (words_right us _ w.1)))
  room (G.arms-two {us = us} q x y) w = omega (arith, room x (words_left us _ w.1), room y (words_right us _ w.1).1)
  room (G.arms_next {us = us} p x y) w = omega (arith, room x (words_left us _ w), room y (words_right us _ w).1)
  room (G.left_one x) w = omega (arith, room x w, reference-counts x)
  room (G.left-two {us = us} p x y) w = omega (arith, room x (words_left us _ w), reference-counts x, room y (words_right us _ w).1, reference-counts y)
  room (G.act-store {us = us} {vs = vs} e x y z) w = let v = (words_right us _ w).1 in omega (arith, room x (words_left us _ w), room y (words_left vs _ v), room z (words_right vs _ v))
  room (G.act-set {us = us} x y) w = omega (arith, room x (words_left us _ w), reference-counts x, room y (words_right us _ w).1)
  room (G.act-perform x) w = omega (arith, room x w.1)
  room (G.act-goto x) w = omega (arith, room x w.1.1)
  room (G.act-call x) w = omega (arith, room x w.1.1)
  room (G.act-return x) w = omega (arith, room x w.1)
  room (G.act-when {us = us} {vs = vs} r q x y z) w = let v = (words_right us _ w.1).1 in omega (arith, room x (words_left us _ w.1), room y (words_left vs _ v), room z (words_right vs _ v).1)
  room (G.act-if {us = us} {vs = vs} {xs = xs} t r q x y y2 z) w = let v = (words_right us _ w.1).1 in let u = (words_right vs _ v).1 in omega (arith, room x (words_left us _ w.1), room y (words_left vs _ v), room y2 (words_left xs _ u), room z (words_right xs _ u).1)
  room (G.act-case {us = us} {vs = vs} q x y z) w = let v = words_right us _ w.1 in omega (arith, room x (words_left us _ w.1), room y (words_left vs _ v), room z (words_right vs _ v).1)
  room G.rest-none w = omega arith
  room (G.rest_more x) w = omega (arith, room x w.1)
  room (G.arms-one {us = us} x y) w = omega (arith, room x (words_left us _ w.1), room y (words_right us _ w.1))
  room G.arms_end w = omega arith
  room (G.arms_more x) w = omega (arith, room x w)
  room G.range-both w = omega arith
  room G.range_last w = omega arith
  room G.no-dimension w = omega arith
  room (G.one-dimension q x) w = omega arith
  room (G.two-dimensions q r x y) w = omega arith
  room (G.a-register x) w = omega arith
  room (G.a-sequencing x) w = omega arith
  room (G.a_memory x) w = omega arith
  room (G.a-terminal x) w = omega arith
  room (G.an-input q r s t u v y c one x) w = omega arith
  room (G.a-computed {us = us} one x y) w = omega (arith, room y (words_right us _ w.1).1)
  room (G.registers-one x) w = omega (arith, room x w)
  room (G.registers-more {us = us} p x y) w = omega (arith, room x (words_left us _ w), room y (words_right us _ w).1)
  room (G.memories-one x) w = omega (arith, room x w)
  room (G.memories-more {us = us} p x y) w = omega (arith, room x (words_left us _ w), room y (words_right us _ w).1)
  room (G.terminals-one x) w = omega (arith, room x w)
  room (G.terminals-more {us = us} p x y) w = omega (arith, room x (words_left us _ w), room y (words_right us _ w).1)
  room (G.an-ending e) w = omega arith
  room (G.register-section {us = us} x y) w = omega (arith, room x (words_left us _ w.1))
  room (G.memory-section {us = us} x y) w = omega (arith, room x (words_left us _ w.1))
  room (G.terminal-section {us = us} x y) w = omega (arith, room x (words_left us _ w.1))
  room G.no-memories w = omega arith
  room (G.some-memories x) w = omega (arith, room x w)
  room G.no-terminals w = omega arith
  room (G.some-terminals x) w = omega (arith, room x w)
  room (G.with-registers {us = us} {vs = vs} {rs = rs} {ms = ms} {ts = ts} x y z) w =
      let v = words_right us _ w in
      let a = sizes-append rs (ms ++ ts) in
      let b = sizes-append ms ts in
      omega (arith, a.0, a.1, b.0, b.1, room x (words_left us _ w), room y (words_left vs _ v), room z (words_right vs _ v))
  room (G.with-memories {us = us} {ms = ms} {ts = ts} x y) w = let a = sizes-append ms ts in omega (arith, a.0, a.1, room x (words_left us _ w), room y (words_right us _ w))
  room (G.with-terminals x) w = omega (arith, room x w)
  room (G.operations-one {us = us} q r s x) w = omega (arith, room x (words_left us _ w.1.1.1))
  room (G.operations-more {us = us} q r s t x y) w = omega (arith, room x (words_left us _ w.1.1.1), room y (words_right us _ w.1.1.1).1.1)
  room G.no-ending w = omega arith
  room (G.some-ending x) w = omega arith
  room G.no-operations w = omega arith
  room (G.some-operations {us = us} x y) w = omega (arith, room x (words_left us _ w.1))
  room G.no_label w = omega arith
  room G.plain_label w = omega arith
  room (G.label-with-value {c = c}) w = omega (arith, constant-room (state_constant l c) (state-constant l c fits w.1.1.0))
  room (G.states-one x) w = omega (arith, room x w)
  room (G.states-more {us = us} x y) w = omega (arith, room x (words_left us _ w), room y (words_right us _ w))
  room (G.state-idle {us = us} p x) w = omega (arith, room x (words_left us _ w))
  room (G.state-acting {us = us} {vs = vs} p x y) w = omega (arith, room x (words_left us _ w), room y (words_left vs _ (words_right us _ w)))
  room (G.control-section {us = us} x y) w = omega (arith, room x (words_left us _ w.1))
  room G.no-dollar w = omega arith
  room G.some-dollar w = omega arith
  room (G.whole-text {us = us} {vs = vs} {ws = ws} x y z d) w = let v = words_right us _ w in let u = words_right vs _ v in omega (arith, room x (words_left us _ w), room z (words_left ws _ u), room y (words_left vs _ v))

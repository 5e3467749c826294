-- The steps that build declarations, operations and states.
use Rattle.std.specs.Prelude.{[], ◌∷◌, ◌++◌, ℕ, drop, get_or}
use Rattle.std.proofs.Math.Option.{none, some}
use Rattle.language.specs.Building.{Built, begin_list, keep_word, make_constant, make_whole, make_one, make_part, make_two, make_word_part, make_binary, make_prefix, make_cut, make_first_arm, make_next_arm, make_choice, make_single, make_pair, make_store, make_set, make_perform, make_goto, make_call, make_return, make_when, make_if, make_arm, make_choose, constant_of, drop_expressions, drop_words, ends_kept, expression_no, list_no, name_of, no_ends, with_ends, with_extents, with_lists, with_states, with_text, word_no}
use Rattle.language.specs.Notions.{as_declared, one_bound, pair_of}
use Rattle.language.specs.BuildSteps.{Step, Steps}
use Rattle.language.specs.Tree as T
use Rattle.language.specs.Tree.{Declaration, Function, Kind, Operation, State, Text}
use Rattle.language.specs.Words.{word_at}

-- ---- Bounds.

abbrev pub make_both : Step Built
make_both p b = drop_words 2 (with_ends b (ends_kept b ∷ b.ends))

abbrev pub make_last : Step Built
make_last p b =
    drop_words 1 (with_ends b (pair_of one_bound (word_at (word_no 0 b)) (constant_of (word_no 0 b)) (word_at (word_no 0 b)) ∷ b.ends))

abbrev pub make_no_dimension : Step Built
make_no_dimension p b = with_extents b (T.single ∷ b.extents)

abbrev pub make_row : Step Built
make_row p b = with_ends (with_extents b (T.row (get_or b.ends 0 no_ends) ∷ b.extents)) (drop 1 b.ends)

abbrev pub make_table : Step Built
make_table p b =
    with_ends (with_extents b (T.table (get_or b.ends 1 no_ends) (get_or b.ends 0 no_ends) ∷ b.extents)) (drop 2 b.ends)

-- ---- Facilities. The n-th word kept from the last is the name.

module _ (t : Text) (d : Declaration) where
  abbrev pub with_register : Text
  with_register = record { registers = t.registers ++ d ∷ []; memories = t.memories; terminals = t.terminals; operations = t.operations; states = t.states }

  abbrev pub with_memory : Text
  with_memory = record { registers = t.registers; memories = t.memories ++ d ∷ []; terminals = t.terminals; operations = t.operations; states = t.states }

  abbrev pub with_terminal : Text
  with_terminal = record { registers = t.registers; memories = t.memories; terminals = t.terminals ++ d ∷ []; operations = t.operations; states = t.states }

abbrev pub declared_as : Kind → Function → ℕ → Built → Declaration
declared_as k f n b = as_declared k (name_of (word_no n b)) (word_at (word_no n b)) (get_or b.extents 0 T.single) f

abbrev pub cleared : ℕ → Built → Text → Built
cleared n b t = drop_words n (with_extents (with_text b t) (drop 1 b.extents))

abbrev pub make_register : Step Built
make_register p b = cleared 1 b (with_register b.text (declared_as T.register T.unspecified 0 b))

abbrev pub make_sequencing : Step Built
make_sequencing p b = cleared 1 b (with_register b.text (declared_as T.sequencing T.unspecified 0 b))

abbrev pub make_memory : Step Built
make_memory p b = cleared 1 b (with_memory b.text (declared_as T.memory T.unspecified 0 b))

abbrev pub make_plain : Step Built
make_plain p b = cleared 1 b (with_terminal b.text (declared_as T.plain T.unspecified 0 b))

-- The `=` is kept after the name.
abbrev pub make_input : Step Built
make_input p b = cleared 2 b (with_terminal b.text (declared_as T.input T.from_input 1 b))

abbrev pub make_computed : Step Built
make_computed p b =
    drop_expressions 1 (cleared 2 b (with_terminal b.text (declared_as T.computed (T.given (word_at (word_no 0 b)) (expression_no 0 b)) 1 b)))

-- ---- Operations and states.

abbrev pub with_operation : Text → Operation → Text
with_operation t o = record { registers = t.registers; memories = t.memories; terminals = t.terminals; operations = t.operations ++ o ∷ []; states = t.states }

abbrev pub with_state : Text → State → Text
with_state t s = record { registers = t.registers; memories = t.memories; terminals = t.terminals; operations = t.operations; states = t.states ++ s ∷ [] }

abbrev pub make_operation : Step Built
make_operation p b =
    drop_words 1 (with_lists
    (with_text b (with_operation b.text (record { name = name_of (word_no 0 b); at = word_at (word_no 0 b); body = list_no 0 b })))
    (drop 1 b.lists))

-- A state without a label begins at its first action or its `/`.
abbrev pub begin_unlabelled : Step Built
begin_unlabelled p b = with_states b (record { at = p; label = none; value = none; actions = T.done } ∷ b.states)

-- The name that was kept is an action's, of a state without a label.
abbrev pub begin_at_name : Step Built
begin_at_name p b =
    with_lists (with_states b (record { at = word_at (word_no 0 b); label = none; value = none; actions = T.done } ∷ b.states)) (T.done ∷ b.lists)

abbrev pub begin_labelled : Step Built
begin_labelled p b =
    drop_words 1 (with_states b
    (record { at = word_at (word_no 0 b); label = some (record { name = name_of (word_no 0 b); at = word_at (word_no 0 b) }); value = none; actions = T.done } ∷ b.states))

abbrev pub begin_valued : Step Built
begin_valued p b =
    drop_words 2 (with_states b
    (record {
      at = word_at (word_no 1 b);
      label = some (record { name = name_of (word_no 1 b); at = word_at (word_no 1 b) });
      value = some (record { constant = constant_of (word_no 0 b); at = word_at (word_no 0 b) });
      actions = T.done;
    } ∷ b.states))

abbrev pub make_state : Step Built
make_state p b =
    let s : State = get_or b.states 0 (record { at = p; label = none; value = none; actions = T.done }) in
    with_lists (with_states
    (with_text b (with_state b.text (record { at = s.at; label = s.label; value = s.value; actions = list_no 0 b })))
    (drop 1 b.states)) (drop 1 b.lists)

-- Of a terminal being declared, the name was kept before the `=`.
abbrev pub tree_steps : Steps Built
tree_steps = record {
  keep_word = keep_word;
  last_word = λ b. word_no 0 b;
  declared_name = λ b. name_of (word_no 1 b);
  make_constant = make_constant;
  make_whole = make_whole;
  make_one = make_one;
  make_part = make_part;
  make_two = make_two;
  make_word_part = make_word_part;
  make_binary = make_binary;
  make_prefix = make_prefix;
  make_cut = make_cut;
  make_first_arm = make_first_arm;
  make_next_arm = make_next_arm;
  make_choice = make_choice;
  make_single = make_single;
  make_pair = make_pair;
  make_store = make_store;
  make_set = make_set;
  make_perform = make_perform;
  make_goto = make_goto;
  make_call = make_call;
  make_return = make_return;
  begin_body = begin_list;
  begin_actions = begin_list;
  begin_then = begin_list;
  begin_else = begin_list;
  begin_arms = begin_list;
  begin_arm = begin_list;
  make_when = make_when;
  make_if = make_if;
  make_arm = make_arm;
  make_choose = make_choose;
  make_both = make_both;
  make_last = make_last;
  make_no_dimension = make_no_dimension;
  make_row = make_row;
  make_table = make_table;
  make_register = make_register;
  make_sequencing = make_sequencing;
  make_memory = make_memory;
  make_plain = make_plain;
  make_input = make_input;
  make_computed = make_computed;
  make_operation = make_operation;
  begin_unlabelled = begin_unlabelled;
  begin_at_name = begin_at_name;
  begin_labelled = begin_labelled;
  begin_valued = begin_valued;
  make_state = make_state;
}

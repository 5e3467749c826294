-- The steps by which a parser builds what it gives, whatever that is: a tree here, records elsewhere. A step sees where the next word stands.
use Rattle.std.specs.Prelude.{List, ℕ}
use Rattle.language.specs.Words.{Position, Word}

abbrev pub Step : Type 0 → Type 0
Step B = Position → B → B

pub record Steps (B : Type 0) : Type 0 where
  -- a word is kept for its node; the word kept last; the name of the terminal being declared
  pub keep_word : Word → B → B
  pub last_word : B → Word
  pub declared_name : B → List ℕ
  -- constants, references, operators and conditionals in expressions
  pub make_constant : Step B
  pub make_whole : Step B
  pub make_one : Step B
  pub make_part : Step B
  pub make_two : Step B
  pub make_word_part : Step B
  pub make_binary : Step B
  pub make_prefix : Step B
  pub make_cut : Step B
  pub make_first_arm : Step B
  pub make_next_arm : Step B
  pub make_choice : Step B
  -- the left side of a store, and actions; a list begins in an operation, a state, behind THEN, behind ELSE and behind DO, and arms begin behind CASE
  pub make_single : Step B
  pub make_pair : Step B
  pub make_store : Step B
  pub make_set : Step B
  pub make_perform : Step B
  pub make_goto : Step B
  pub make_call : Step B
  pub make_return : Step B
  pub begin_body : Step B
  pub begin_actions : Step B
  pub begin_then : Step B
  pub begin_else : Step B
  pub begin_arms : Step B
  pub begin_arm : Step B
  pub make_when : Step B
  pub make_if : Step B
  pub make_arm : Step B
  pub make_choose : Step B
  -- bounds and facilities
  pub make_both : Step B
  pub make_last : Step B
  pub make_no_dimension : Step B
  pub make_row : Step B
  pub make_table : Step B
  pub make_register : Step B
  pub make_sequencing : Step B
  pub make_memory : Step B
  pub make_plain : Step B
  pub make_input : Step B
  pub make_computed : Step B
  -- operations and states
  pub make_operation : Step B
  pub begin_unlabelled : Step B
  pub begin_at_name : Step B
  pub begin_labelled : Step B
  pub begin_valued : Step B
  pub make_state : Step B

-- What a parser has built so far, and the steps by which it builds the tree: each takes what it needs from the tops of the rows and puts the node there.
use Rattle.std.specs.Prelude.{true, List, [], ◌∷◌, ℕ, drop, get_or}
use Rattle.language.specs.Notions.{pair_of}
use Rattle.language.specs.BuildSteps.{Step}
use Rattle.language.specs.Tree as T
use Rattle.language.specs.Tree.{Actions, Ends, Expression, Extent, Left, Name, State, Text}
use Rattle.language.specs.Value.{value}
use Rattle.language.specs.Words.{Constant, Word, constant, kind_of, name, position, sign, word_at}

-- Rows, the latest first: words kept, and nodes that wait for their owner. A state waits with its place, label and value.
pub record Built : Type 0 where
  pub words : List Word
  pub expressions : List Expression
  pub lefts : List Left
  pub lists : List Actions
  pub ends : List Ends
  pub extents : List Extent
  pub states : List State
  pub text : Text

abbrev pub empty_text : Text
empty_text = record { registers = []; memories = []; terminals = []; operations = []; states = [] }

abbrev pub nothing_built : Built
nothing_built = record { words = []; expressions = []; lefts = []; lists = []; ends = []; extents = []; states = []; text = empty_text }

-- ---- What stands in a row; a row that is too short has these, which no step of a text meets.

abbrev no_word : Word
no_word = sign 0 (position 0)

abbrev pub no_constant : Constant
no_constant = record { bare = true; value = value 16 0 }

abbrev no_expression : Expression
no_expression = T.whole [] (position 0)

abbrev pub no_ends : Ends
no_ends = pair_of no_constant (position 0) no_constant (position 0)

unfoldable pub word_no : ℕ → Built → Word
word_no k b = get_or b.words k no_word

unfoldable pub expression_no : ℕ → Built → Expression
expression_no k b = get_or b.expressions k no_expression

unfoldable pub list_no : ℕ → Built → Actions
list_no k b = get_or b.lists k T.done

abbrev pub name_of : Word → Name
name_of (name n p) = n
name_of (constant c p) = []
name_of (sign k p) = []

abbrev pub constant_of : Word → Constant
constant_of (name n p) = no_constant
constant_of (constant c p) = c
constant_of (sign k p) = no_constant

-- ---- Rows changed.

module _ (b : Built) where
  abbrev pub with_words : List Word → Built
  with_words ws = record { words = ws; expressions = b.expressions; lefts = b.lefts; lists = b.lists; ends = b.ends; extents = b.extents; states = b.states; text = b.text }

  abbrev pub with_expressions : List Expression → Built
  with_expressions es = record { words = b.words; expressions = es; lefts = b.lefts; lists = b.lists; ends = b.ends; extents = b.extents; states = b.states; text = b.text }

  abbrev pub with_lefts : List Left → Built
  with_lefts ls = record { words = b.words; expressions = b.expressions; lefts = ls; lists = b.lists; ends = b.ends; extents = b.extents; states = b.states; text = b.text }

  abbrev pub with_lists : List Actions → Built
  with_lists ls = record { words = b.words; expressions = b.expressions; lefts = b.lefts; lists = ls; ends = b.ends; extents = b.extents; states = b.states; text = b.text }

  abbrev pub with_ends : List Ends → Built
  with_ends es = record { words = b.words; expressions = b.expressions; lefts = b.lefts; lists = b.lists; ends = es; extents = b.extents; states = b.states; text = b.text }

  abbrev pub with_extents : List Extent → Built
  with_extents es = record { words = b.words; expressions = b.expressions; lefts = b.lefts; lists = b.lists; ends = b.ends; extents = es; states = b.states; text = b.text }

  abbrev pub with_states : List State → Built
  with_states ss = record { words = b.words; expressions = b.expressions; lefts = b.lefts; lists = b.lists; ends = b.ends; extents = b.extents; states = ss; text = b.text }

  abbrev pub with_text : Text → Built
  with_text t = record { words = b.words; expressions = b.expressions; lefts = b.lefts; lists = b.lists; ends = b.ends; extents = b.extents; states = b.states; text = t }

abbrev pub keep_word : Word → Built → Built
keep_word w b = with_words b (w ∷ b.words)

-- An expression made of the last m expressions and the last n words kept.
abbrev pub made_of : ℕ → ℕ → Expression → Built → Built
made_of m n e b = with_words (with_expressions b (e ∷ drop m b.expressions)) (drop n b.words)

-- ---- Expressions.

abbrev pub make_constant : Step Built
make_constant p b = made_of 0 1 (T.constant (constant_of (word_no 0 b)) (word_at (word_no 0 b))) b

abbrev pub make_whole : Step Built
make_whole p b = made_of 0 1 (T.whole (name_of (word_no 0 b)) (word_at (word_no 0 b))) b

abbrev pub make_one : Step Built
make_one p b = made_of 1 1 (T.one (name_of (word_no 0 b)) (word_at (word_no 0 b)) (expression_no 0 b)) b

-- The last two words kept, as ends.
abbrev pub ends_kept : Built → Ends
ends_kept b = pair_of (constant_of (word_no 1 b)) (word_at (word_no 1 b)) (constant_of (word_no 0 b)) (word_at (word_no 0 b))

abbrev pub make_part : Step Built
make_part p b = made_of 0 3 (T.part (name_of (word_no 2 b)) (word_at (word_no 2 b)) (ends_kept b)) b

abbrev pub make_two : Step Built
make_two p b = made_of 2 1 (T.two (name_of (word_no 0 b)) (word_at (word_no 0 b)) (expression_no 1 b) (expression_no 0 b)) b

abbrev pub make_word_part : Step Built
make_word_part p b = made_of 1 3 (T.word_part (name_of (word_no 2 b)) (word_at (word_no 2 b)) (expression_no 0 b) (ends_kept b)) b

abbrev pub make_binary : Step Built
make_binary p b = made_of 2 1 (T.binary (kind_of (word_no 0 b)) (word_at (word_no 0 b)) (expression_no 1 b) (expression_no 0 b)) b

abbrev pub make_prefix : Step Built
make_prefix p b = made_of 1 1 (T.prefix (kind_of (word_no 0 b)) (word_at (word_no 0 b)) (expression_no 0 b)) b

abbrev pub make_cut : Step Built
make_cut p b = made_of 1 2 (T.cut (kind_of (word_no 1 b)) (word_at (word_no 1 b)) (expression_no 0 b) (constant_of (word_no 0 b))) b

abbrev pub make_first_arm : Step Built
make_first_arm p b = made_of 1 0 (T.first_arm (expression_no 0 b)) b

abbrev pub make_next_arm : Step Built
make_next_arm p b = made_of 2 0 (T.next_arm (expression_no 1 b) (expression_no 0 b)) b

abbrev pub make_choice : Step Built
make_choice p b = made_of 2 1 (T.choice (word_at (word_no 0 b)) (expression_no 1 b) (expression_no 0 b)) b

-- ---- Actions. An action goes to the end of the last list.

-- The list a, and b after it.
unfoldable pub joined : Actions → Actions → Actions
joined T.done b = b
joined (T.store k p l e a) b = T.store k p l e (joined a b)
joined (T.set p e a) b = T.set p e (joined a b)
joined (T.perform n p a) b = T.perform n p (joined a b)
joined (T.goto n p a) b = T.goto n p (joined a b)
joined (T.call n p a) b = T.call n p (joined a b)
joined (T.return p a) b = T.return p (joined a b)
joined (T.when p e l a) b = T.when p e l (joined a b)
joined (T.choose p e l a) b = T.choose p e l (joined a b)
joined (T.arm l a) b = T.arm l (joined a b)

-- Action a, made of the last n lists, at the end of the list below them.
abbrev pub put_action : ℕ → Actions → Built → Built
put_action n a b = with_lists b (joined (list_no n b) a ∷ drop n (drop 1 b.lists))

abbrev pub drop_words : ℕ → Built → Built
drop_words n b = with_words b (drop n b.words)

abbrev pub drop_expressions : ℕ → Built → Built
drop_expressions n b = with_expressions b (drop n b.expressions)

abbrev pub begin_list : Step Built
begin_list p b = with_lists b (T.done ∷ b.lists)

abbrev pub make_single : Step Built
make_single p b = drop_expressions 1 (with_lefts b (T.single (expression_no 0 b) ∷ b.lefts))

abbrev pub make_pair : Step Built
make_pair p b = drop_expressions 2 (with_lefts b (T.pair (expression_no 1 b) (expression_no 0 b) ∷ b.lefts))

abbrev pub make_store : Step Built
make_store p b =
    drop_words 1 (drop_expressions 1 (with_lefts
    (put_action 0 (T.store (kind_of (word_no 0 b)) (word_at (word_no 0 b)) (get_or b.lefts 0 (T.single no_expression)) (expression_no 0 b) T.done) b)
    (drop 1 b.lefts)))

abbrev pub make_set : Step Built
make_set p b = drop_words 1 (drop_expressions 1 (put_action 0 (T.set (word_at (word_no 0 b)) (expression_no 0 b) T.done) b))

abbrev pub make_perform : Step Built
make_perform p b = drop_words 1 (put_action 0 (T.perform (name_of (word_no 0 b)) (word_at (word_no 0 b)) T.done) b)

abbrev pub make_goto : Step Built
make_goto p b = drop_words 1 (put_action 0 (T.goto (name_of (word_no 0 b)) (word_at (word_no 0 b)) T.done) b)

abbrev pub make_call : Step Built
make_call p b = drop_words 1 (put_action 0 (T.call (name_of (word_no 0 b)) (word_at (word_no 0 b)) T.done) b)

abbrev pub make_return : Step Built
make_return p b = drop_words 1 (put_action 0 (T.return (word_at (word_no 0 b)) T.done) b)

abbrev pub make_when : Step Built
make_when p b = drop_words 1 (drop_expressions 1 (put_action 1 (T.when (word_at (word_no 0 b)) (expression_no 0 b) (list_no 0 b) T.done) b))

-- IF with ELSE: its two lists are the arms.
abbrev pub make_if : Step Built
make_if p b =
    drop_words 1 (drop_expressions 1
    (put_action 2 (T.choose (word_at (word_no 0 b)) (expression_no 0 b) (T.arm (list_no 1 b) (T.arm (list_no 0 b) T.done)) T.done) b))

abbrev pub make_arm : Step Built
make_arm p b = put_action 1 (T.arm (list_no 0 b) T.done) b

abbrev pub make_choose : Step Built
make_choose p b = drop_words 1 (drop_expressions 1 (put_action 1 (T.choose (word_at (word_no 0 b)) (expression_no 0 b) (list_no 0 b) T.done) b))

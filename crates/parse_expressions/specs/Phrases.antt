-- What the functions of the descent answer, each by the stack that it comes from and goes to.
use Rattle.std.specs.Prelude.{Bool, true, false, List, [], ◌∷◌, ◌++◌, ◌≡◌, ℕ, suc, ◌%◌, ◌≤◌, eqb, Err, Ok, Result}
use Rattle.about_grammar.specs.Following.{among}
use Rattle.language.specs.Building.{Built, keep_word}
use Rattle.language.specs.Declaring.{tree_steps}
use Rattle.language.specs.Describe.{arms_of}
use Rattle.language.specs.Description.{Node, node_places}
use Rattle.language.specs.Encode.{node_bytes}
use Rattle.language.specs.Kinds.{a_constant, case_word, do_word, else_word, end_case_word, end_if_word, if_word, then_word}
use Rattle.language.specs.Machine.{Ask, ask, expression, level, make, more_arms, refused, word}
use Rattle.language.specs.Naming.{Scope}
use Rattle.language.specs.Tree.{Expression}
use Rattle.language.specs.Words as L
use Rattle.judge_records.specs.Noted.{plain_places}
use Rattle.text_words.specs.declared.Fault.{Fault}
use Rattle.text_words.specs.declared.Word.{Word}
use Rattle.text_words.specs.Meaning.{faulted, positioned}
use Rattle.parse_array.specs.Held.{Held, held}
use Rattle.parse_array.specs.Layout.{most_nodes}
use Rattle.parse_step.specs.declared.State.{State}
use Rattle.parse_step.specs.Course.{Seen, Stack, ahead, kind_no, runs}
use Rattle.parse_step.specs.Gained.{Gained, Grows}
use Rattle.parse_step.specs.Says.{Here, Parses, Pending, Read, Says, pushed}
use Rattle.parse_step.specs.Taken.{Kept, ends_ahead}
use Rattle.parse_levels.specs.declared.Lead.{Lead}
use Rattle.parse_levels.specs.declared.Level.{Level}
use Rattle.parse_levels.specs.declared.Level.TheVariants as E
use Rattle.parse_levels.specs.declared.Rank.{Rank}
use Rattle.parse_levels.specs.declared.Rank.TheVariants as R
use Rattle.parse_levels.specs.Orders.{again, head_of, operators_of, prefix_level, prefix_stack, rank_after, stack_of, tail_stack, tails_from}
use Rattle.parse_operands.specs.Brackets.{bracket_ask, bracket_end}
use Rattle.parse_operands.specs.References.{letters_of}
use Rattle.parse_expressions.specs.declared.pieces.Armed.{Armed}
use Rattle.language.specs.Tests.{both}
use Rattle.parse_step.specs.declared.Unread.{Unread}
use Rattle.parse_step.specs.declared.Unread.{Unread}
use Rattle.parse_step.specs.declared.Unread.TheVariants.{Full, Refused}
use Rattle.parse_step.specs.Answers.{Answer}
use Rattle.parse_step.specs.declared.Reached.{Reached}
use Rattle.parse_step.specs.declared.Unread.{Unread}

-- Nothing is kept before; or a name is.
abbrev pub same : List ℕ → Built → Built
same text b = b

abbrev pub after_name : Word → List ℕ → Built → Built
after_name name text b = keep_word (L.name (letters_of text name) (positioned name.at)) b

abbrev pub stayed : State → Word → Reached
stayed s w = record { next = w; state = s }

-- The state at a nesting.
abbrev pub at_nesting : State → ℕ → State
at_nesting s n = record { facilities = s.facilities; operations = s.operations; states = s.states; counted = s.counted; nesting = n; nodes = s.nodes; actions = s.actions; known = s.known }

-- A record with one place.
abbrev pub gains : Node → L.Position → Word → State → List ℕ → List ℕ → Answer → Type 0
gains n p next s work work' r = Gained next s (node_bytes n) (plain_places (node_places p)) work work' r

-- Behind a prefix operator its operand comes.
pub record Operand (head : Lead) (text : List ℕ) (w : Word) (s : State) (r : Reached) : Type 0 where
  pub course : (K : Stack) (b : Built) → runs text (prefix_stack head ++ K) w b s ≡ runs text (stack_of (prefix_level head) ++ K) r.next b r.state
  pub nesting : r.state.nesting ≡ s.nesting
  pub kept : Kept s r.state
  pub seen : Seen text r.next

pub record Unprefixed (head : Lead) (text : List ℕ) (w : Word) (s : State) (r : Answer) : Type 0 where
  pub done : {r' : Reached} → r ≡ Ok r' → Seen text w → Operand head text w s r'
  pub refused : (f : Fault) → r ≡ Err (Refused f) → Seen text w → (K : Stack) (b : Built) → runs text (prefix_stack head ++ K) w b s ≡ refused (faulted f)
  pub full : {z : State} → r ≡ Err (Full z) → ⊥

-- A level's first operand, by the head that the level has there.
abbrev pub Begins : Lead → List ℕ → Word → State → List ℕ → List ℕ → Answer → Type 0
Begins head text w s work work' r =
    (sc : Scope) → Here text sc w s work → (l : Level) → head_of l (kind_no w.kind) ≡ head
    → Says text sc (stack_of l) (tails_from (rank_after head) l) (λ b. b) (held s.nodes work) s.nodes s.nesting w s r work'

-- An operator of a rank, behind an expression.
abbrev pub Operates : Rank → List ℕ → Word → State → List ℕ → List ℕ → Answer → Type 0
Operates rank text w s work work' r =
    (sc : Scope) → Here text sc w s work → among (kind_no w.kind) (operators_of rank) ≡ true → (h : Held) (base : ℕ) (t : Expression) → Pending sc h base t s work
    → Says text sc (tail_stack rank) (again rank) (pushed t) h base s.nesting w s r work' × Grows s r

-- The first rank that may come behind an operator: the same again, but for a relation.
abbrev pub rank_behind : Rank → Rank
rank_behind R.Sum = R.Sum
rank_behind R.Relation = R.Cut
rank_behind R.Cut = R.Cut
rank_behind R.Con = R.Con
rank_behind R.And = R.And
rank_behind R.Exclusive = R.Exclusive
rank_behind R.Or = R.Or
rank_behind R.Beyond = R.Beyond

-- A reference, behind its first subscript.
abbrev pub Second : Ask → Word → ℕ → List ℕ → Word → State → List ℕ → List ℕ → Answer → Type 0
Second a name depth text w s work work' r =
    (sc : Scope) → Here text sc w s work → (h : Held) (base : ℕ) (e : Expression) → Pending sc h base e s work
    → Says text sc (ask a ∷ []) [] (λ b. pushed e (after_name name text b)) h base depth w s r work'

-- An expression in brackets.
abbrev pub Inside : Bool → List ℕ → Word → State → List ℕ → List ℕ → Answer → Type 0
Inside later text w s work work' r =
    (sc : Scope) → Here text sc w s work → ends_ahead (ahead text w) ≡ false
    → Says text sc (ask (bracket_ask later) ∷ []) (ask (bracket_end later) ∷ []) (λ b. b) (held s.nodes work) s.nodes s.nesting w s r work'

-- Its first constant, which is kept until no colon follows: the operators of an expression may come.
abbrev pub Keeps : Bool → List ℕ → Word → State → List ℕ → List ℕ → Answer → Type 0
Keeps later text w s work work' r =
    (sc : Scope) → Here text sc w s work → ends_ahead (ahead text w) ≡ false
    → Says text sc (ask (bracket_ask later) ∷ []) (tails_from R.Sum E.Expression ++ (ask (bracket_end later) ∷ [])) (λ b. b) (held s.nodes work) s.nodes s.nesting w s r work'

-- What comes before the operators of a level: an operand that begins it, or such a constant; and the same with the operators.
pub record Leads (kept : Bool) (head : Lead) (text : List ℕ) (w : Word) (s : State) (work work' : List ℕ) (r : Answer) : Type 0 where
  pub plain : kept ≡ false → Begins head text w s work work' r
  pub constant : kept ≡ true → kind_no w.kind ≡ a_constant → (later : Bool) → Keeps later text w s work work' r

pub record Whole (kept : Bool) (l : Level) (text : List ℕ) (w : Word) (s : State) (work work' : List ℕ) (r : Answer) : Type 0 where
  pub plain : kept ≡ false → Parses (stack_of l) same s.nesting text w s work work' r
  pub constant : kept ≡ true → l ≡ E.Expression → kind_no w.kind ≡ a_constant → (later : Bool) → Inside later text w s work work' r

-- ---- Arms, with their number.

abbrev pub FirstArm : ℕ → List ℕ → Word → State → List ℕ → List ℕ → Answer → Type 0
FirstArm sep text w s work work' r =
    (sc : Scope) → Here text sc w s work → 3 ≤ sep
    → (x : Says text sc (word sep level ∷ ask expression ∷ make tree_steps.make_first_arm ∷ []) [] (λ b. b) (held s.nodes work) s.nodes s.nesting w s r work')
    × ((r' : Reached) (d : r ≡ Ok r') → arms_of (x.done d).tree ≡ 1)

abbrev pub NextArm : ℕ → List ℕ → Word → State → List ℕ → List ℕ → Answer → Type 0
NextArm sep text w s work work' r =
    (sc : Scope) → Here text sc w s work → 3 ≤ sep → (h : Held) (base : ℕ) (t : Expression) → Pending sc h base t s work
    → (x : Says text sc (word sep level ∷ ask expression ∷ make tree_steps.make_next_arm ∷ []) [] (pushed t) h base s.nesting w s r work')
    × ((r' : Reached) (d : r ≡ Ok r') → arms_of (x.done d).tree ≡ suc (arms_of t)) × Grows s r

-- IF has two arms, CASE two or more: the words before them, and at the end.
abbrev pub first_word : Bool → ℕ
first_word false = then_word
first_word true = do_word

abbrev pub other_word : Bool → ℕ
other_word false = else_word
other_word true = do_word

abbrev pub last_word : Bool → ℕ
last_word false = end_if_word
last_word true = end_case_word

abbrev pub choice_word : Bool → ℕ
choice_word false = if_word
choice_word true = case_word

abbrev pub more_stack : Bool → Stack
more_stack false = []
more_stack true = ask more_arms ∷ []

abbrev pub arm_stack : Bool → Stack
arm_stack case =
    word (first_word case) level ∷ ask expression ∷ make tree_steps.make_first_arm ∷ word (other_word case) level ∷ ask expression ∷ make tree_steps.make_next_arm ∷ more_stack case

-- Whether a further arm comes.
abbrev pub another : Bool → ℕ → Bool
another case k = both case (eqb k do_word)

-- An expression as it is read, and the number of its arms.
pub record Counted (text : List ℕ) (sc : Scope) (P : Stack) (pre : Built → Built) (h : Held) (base depth : ℕ) (w : Word) (s : State) (r : Result Armed Unread) (work : List ℕ) : Type 0 where
  pub done : {a : Armed} → r ≡ Ok a → (y : Read text sc P [] pre h base depth w s a.reached work) × (a.count ≡ arms_of y.tree % 65536)
  pub refused : (f : Fault) → r ≡ Err (Refused f) → (K : Stack) (b : Built) → runs text (P ++ K) w (pre b) s ≡ refused (faulted f)
  pub full : {z : State} → r ≡ Err (Full z) → most_nodes ≤ z.nodes

abbrev pub MoreArms : Bool → ℕ → List ℕ → Word → State → List ℕ → List ℕ → Result Armed Unread → Type 0
MoreArms case n text w s work work' r =
    (sc : Scope) → Here text sc w s work → (h : Held) (base : ℕ) (t : Expression) → Pending sc h base t s work → n ≡ arms_of t % 65536
    → Counted text sc (more_stack case) (pushed t) h base s.nesting w s r work'

abbrev pub Arms : Bool → List ℕ → Word → State → List ℕ → List ℕ → Result Armed Unread → Type 0
Arms case text w s work work' r =
    (sc : Scope) → Here text sc w s work → Counted text sc (arm_stack case) (λ b. b) (held s.nodes work) s.nodes s.nesting w s r work'

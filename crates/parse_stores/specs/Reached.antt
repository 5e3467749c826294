-- What is reached within an action, and what its end then answers.
use Rattle.std.specs.Prelude.{Bool, true, false, List, [], ◌∷◌, ◌++◌, ◌≡◌, ℕ, ◌+◌, ◌≤◌, Err, Ok}
use Rattle.parse_step.specs.declared.Reached as W
use Rattle.parse_step.specs.declared.State.{State}
use Rattle.parse_step.specs.Course.{Seen, Stack, runs}
use Rattle.parse_step.specs.Pays.{Pays}
use Rattle.parse_step.specs.Says.{pushed}
use Rattle.language.specs.Building.{Built, with_lefts}
use Rattle.language.specs.Describe.{Noted, expression_size, last_of, left_nodes, left_size, nodes_of}
use Rattle.language.specs.Declaring.{tree_steps}
use Rattle.language.specs.Description as D
use Rattle.language.specs.Kinds.{a_name}
use Rattle.language.specs.Machine.{Ask, ask, keep, make, refused, store_sign}
use Rattle.language.specs.Naming.{Scope}
use Rattle.language.specs.BuildSteps.{Step}
use Rattle.language.specs.Tree as T
use Rattle.language.specs.Tree.{Actions, Expression, Left}
use Rattle.parse_tables.specs.declared.meaning.KnownNames.{KnownNames}
use Rattle.text_words.specs.declared.Fault.{Fault}
use Rattle.text_words.specs.declared.Word.{Word}
use Rattle.text_words.specs.Meaning.{faulted}
use Rattle.parse_array.specs.Held.{held, with_nodes}
use Rattle.parse_stores.specs.Actions.{Paid, Standing, Written, grown}
use Rattle.parse_stores.specs.declared.stores.Sides.{Sides}
use Rattle.parse_stores.specs.declared.stores.Sides.TheVariants.{One, Two}
use Rattle.parse_step.specs.declared.Unread.TheVariants.{Full, Refused}
use Rattle.parse_step.specs.Answers.{Answer}

-- From the state s reading came to the word w₁ with `more` words counted, expression records of `pay` besides those paid for, and these records behind those of s.
pub record Reached (text : List ℕ) (sc : Scope) (more pay : ℕ) (ns : List Noted) (size : ℕ) (s : State) (work : List ℕ) (w₁ : Word) (s₁ : State) (work₁ : List ℕ) : Type 0 where
  pub seen : Seen text w₁
  pub pays : Pays pay 0 s s₁
  pub counted : s.counted + more ≤ s₁.counted
  pub nesting : s₁.nesting ≡ s.nesting
  pub held : held s₁.nodes work₁ ≡ with_nodes (held s.nodes work) ns
  pub nodes : s₁.nodes ≡ s.nodes + size

-- From the stack P at the word w₁ the machine comes to some actions, which begin at the state s.
pub record Ended (text : List ℕ) (sc : Scope) (n : KnownNames) (P : Stack) (pre : Built → Built) (w₁ : Word) (s₁ s : State) (work work' : List ℕ) (r : W.Reached) : Type 0 where
  pub tree : Actions
  pub course : (K : Stack) (b : Built) → runs text (P ++ K) w₁ (pre b) s₁ ≡ runs text K r.next (grown tree b) r.state
  pub written : Written sc tree s work r.state work'
  pub paid : Paid s s.actions r.state
  pub standing : Standing text sc n r.next r.state r.state.actions work'

pub record Ends (text : List ℕ) (sc : Scope) (n : KnownNames) (P : Stack) (pre : Built → Built) (w₁ : Word) (s₁ s : State) (work work' : List ℕ) (r : Answer) : Type 0 where
  pub done : {r' : W.Reached} → r ≡ Ok r' → Ended text sc n P pre w₁ s₁ s work work' r'
  pub refused : (f : Fault) → r ≡ Err (Refused f) → (K : Stack) (b : Built) → runs text (P ++ K) w₁ (pre b) s₁ ≡ refused (faulted f)
  pub full : {z : State} → r ≡ Err (Full z) → ⊥

-- ---- Behind `->` and `=>`.

abbrev pub arrow_step : Bool → Step Built
arrow_step false = tree_steps.make_goto
arrow_step true = tree_steps.make_call

abbrev pub arrow_action : Bool → ℕ → D.Action
arrow_action false k = D.goto k
arrow_action true k = D.call k

abbrev pub Arrows : Bool → List ℕ → KnownNames → Word → State → List ℕ → List ℕ → Answer → Type 0
Arrows call text n w₁ s₁ work₁ work' r =
    (sc : Scope) (w : Word) (s : State) (work : List ℕ) → Standing text sc n w s s.actions work → Reached text sc 1 0 [] 0 s work w₁ s₁ work₁
    → Ends text sc n (keep a_name ∷ make (arrow_step call) ∷ []) (λ b. b) w₁ s₁ s work work' r

-- ---- Behind a reference on the left.

abbrev pub AfterLeft : Ask → List ℕ → Word → State → List ℕ → List ℕ → Answer → Type 0
AfterLeft a text w₁ s₁ work₁ work' r =
    (sc : Scope) (n : KnownNames) (w : Word) (s : State) (work : List ℕ) (t : Expression) → Standing text sc n w s s.actions work
    → Reached text sc 0 2 (nodes_of sc s.nodes t) (expression_size t) s work w₁ s₁ work₁ → Ends text sc n (ask a ∷ []) (pushed t) w₁ s₁ s work work' r

-- The numbers of the records of a left side.
abbrev pub sides_of : ℕ → Left → Sides
sides_of base (T.single e) = One (last_of base (expression_size e))
sides_of base (T.pair e f) = Two (last_of base (expression_size e)) (last_of (base + expression_size e) (expression_size f))

-- The record of a store, by those of its sides.
abbrev pub sided : ℕ → Sides → ℕ → D.Action
sided k (One l) r = D.store k l r
sided k (Two l m) r = D.store_pair k l m r

-- A left side waits for its store.
abbrev pub with_left : Left → Built → Built
with_left l b = with_lefts b (l ∷ b.lefts)

abbrev pub Stores : Sides → List ℕ → Word → State → List ℕ → List ℕ → Answer → Type 0
Stores left text w₁ s₁ work₁ work' r =
    (sc : Scope) (n : KnownNames) (w : Word) (s : State) (work : List ℕ) (l : Left) → Standing text sc n w s s.actions work → left ≡ sides_of s.nodes l
    → Reached text sc 0 4 (left_nodes sc s.nodes l) (left_size l) s work w₁ s₁ work₁ → Ends text sc n (ask store_sign ∷ []) (with_left l) w₁ s₁ s work work' r

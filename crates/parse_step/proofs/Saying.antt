-- How answers come from answers: a course before one, a word that is refused, a record that ends a phrase.
use mathlib.Core.List.{List, [], ◌∷◌, ◌++◌}
use mathlib.Core.Path.{◌≡◌, refl, sym, ap, ◌∙◌, subst}
use Prim.Native.Nat.{ℕ, ◌+◌, ◌-◌, ◌≤◌}
use native.Mathlib.Omega.{arith}
use lib.ListN.{length}
use Rattle.about_grammar.specs.Stacks.{makes}
use Rattle.language.specs.Building.{Built}
use Rattle.language.specs.Declaring.{tree_steps}
use Rattle.language.specs.Describe.{Noted, expression_size, nodes_of}
use Rattle.language.specs.Encode.{node_bytes}
use Rattle.language.specs.Machine.{Counts, feed, finish, ease, make, nested, refused, run, within_ceilings, word}
use Rattle.language.specs.Naming.{Scope}
use Rattle.language.specs.SectionWays.{rule_of}
use Rattle.language.specs.BuildSteps.{Step}
use Rattle.language.specs.Tree.{Expression}
use Rattle.language.specs.Words as L
use Rattle.language.specs.Words.{fault}
use Rattle.judge_records.specs.Noted.{node_beside_bytes}
use Rattle.language.specs.declared.refusals.Refusal.{Refusal}
use Rattle.text_words.specs.declared.Word.{Word}
use Rattle.text_words.specs.Meaning.{faulted, positioned}
use Rattle.parse_tables.proofs.NamesGrown.{facilities-other}
use Rattle.parse_tables.specs.Names.{facility_names}
use Rattle.parse_array.proofs.NodesAdded.{nodes-append}
use Rattle.parse_array.specs.Held.{Held, held, other_in, with_bytes, with_nodes}
use Rattle.parse_step.specs.declared.Bearing.{Bearing}
use Rattle.parse_step.specs.declared.State.{State}
use Rattle.parse_array.specs.Layout.{most_nodes}
use Rattle.parse_step.specs.Course.{Seen, Stack, ahead, bearing_of, counts_of, runs, runs_on}
use Rattle.parse_step.specs.Gained.{Behind, Gained}
use Rattle.parse_step.specs.Says.{Here, Pending, Read, Says, pushed}
use Rattle.parse_step.specs.Taken.{Expected, Kept, Passed, Refuses, Took}
use Rattle.parse_step.proofs.NodeGained.{gained-node}
use Rattle.parse_step.proofs.TakenWords.{on_taken, took-refused}
use Rattle.parse_step.specs.declared.Unread.TheVariants.{Full}
use Rattle.parse_step.specs.Answers.{Answer}
use Rattle.parse_step.specs.declared.Reached.{Reached}
use Rattle.parse_step.proofs.Answers.{at_full, at_ok, not_ok, ok_err, refused_full, same-fault}
use Rattle.std.specs.Prelude.{Err, IsErr, Ok}

-- ---- Steps of the machine that take no word.

pub makes-it : (text : List ℕ) (f : Step Built) (K : Stack) (w : Word) (b c : Built) (s : State) → ((p : L.Position) → f p b ≡ c) → runs text (make f ∷ K) w b s ≡ runs text K w c s
unfolding runs_on
makes-it text f K w b c s h = makes tree_steps within_ceilings (rule_of tree_steps) f K b c (counts_of s) h (ahead text w) (length text)

pub eases : (text : List ℕ) (K : Stack) (vs : List L.Word) (b : Built) (c : Counts) → runs_on text (ease ∷ K) vs b c ≡ runs_on text K vs b (nested (c.nesting - 1) c)
unfolding runs_on run feed finish
eases text K [] b c = refl
eases text K (v ∷ vs) b c = refl

-- ---- Where parsing stands.

module _ {text : List ℕ} {sc : Scope} where
  pub here-passed : {w : Word} {c : Counts} {s : State} {r : Reached} {work : List ℕ} → Here text sc w s work → Passed text w c s r → Here text sc r.next r.state work
  here-passed {work = work} h p = record { seen = p.seen; names = h.names ∙ ap (facility_names text work) (sym p.kept.known) }

pub pending-kept : {sc : Scope} {h : Held} {base : ℕ} {t : Expression} {s s' : State} {work : List ℕ} → Pending sc h base t s work → Kept s s' → Pending sc h base t s' work
pending-kept {work = work} p k = record { records = ap (λ (n : ℕ). held n work) k.nodes ∙ p.records; nodes = k.nodes ∙ p.nodes }

other-kept : (n m : ℕ) (w₁ w₂ bs ps : List ℕ) → held m w₂ ≡ with_bytes (held n w₁) bs ps → other_in w₂ ≡ other_in w₁
unfolding held
other-kept n m w₁ w₂ bs ps e = ap (λ (x : Held). x.other) e

-- ---- Answers that are known.

module _ {text : List ℕ} {sc : Scope} {P Q : Stack} {pre : Built → Built} {h : Held} {base depth : ℕ} {w : Word} {s : State} {work : List ℕ} where
  pub says-ok : {x : Reached} → Read text sc P Q pre h base depth w s x work → Says text sc P Q pre h base depth w s (Ok x) work
  says-ok y = record { done = λ d. at_ok (λ x. Read text sc P Q pre h base depth w s x work) d y; refused = λ f d. ok_err d; full = λ d. ok_err d }

  pub says-full : {z : State} → most_nodes ≤ z.nodes → Says text sc P Q pre h base depth w s (Err (Full z)) work
  says-full m = record { done = λ d. ok_err (sym d); refused = λ f d. refused_full (sym d); full = λ d. at_full (λ z. most_nodes ≤ z.nodes) d m }

-- ---- Answers handed on.

module _ {text : List ℕ} {sc : Scope} {P Q : Stack} {pre : Built → Built} {h : Held} {base depth : ℕ} {w : Word} {s : State} {r : Answer} {work : List ℕ} where
  -- A refusal, or an array that is full, behind a course.
  pub passed : {P₁ Q₁ : Stack} {pre₁ : Built → Built} {h₁ : Held} {base₁ depth₁ : ℕ} {w₁ : Word} {s₁ : State} → Says text sc P₁ Q₁ pre₁ h₁ base₁ depth₁ w₁ s₁ r work → IsErr r
      → (M : Stack → Stack) (mid : Built → Built) → ((K : Stack) (b : Built) → runs text (P ++ K) w (pre b) s ≡ runs text (P₁ ++ M K) w₁ (pre₁ (mid b)) s₁) → Says text sc P Q pre h base depth w s r work
  passed x n M mid g = record {
    done = λ d. not_ok n d;
    refused = λ f d K b. g K b ∙ x.refused f d (M K) (mid b);
    full = x.full;
  }

  -- An answer behind a course.
  pub through : {P₁ : Stack} {pre₁ : Built → Built} {w₁ : Word} {s₁ : State} → Says text sc P₁ Q pre₁ h base depth w₁ s₁ r work
      → ((K : Stack) (b : Built) → runs text (P ++ K) w (pre b) s ≡ runs text (P₁ ++ K) w₁ (pre₁ b) s₁) → Says text sc P Q pre h base depth w s r work
  through x g = record {
    done = λ d. let y = x.done d in record { tree = y.tree; course = λ K b. g K b ∙ y.course K b; pending = y.pending; nesting = y.nesting; here = y.here };
    refused = λ f d K b. g K b ∙ x.refused f d K b;
    full = x.full;
  }

  -- A word that is not taken.
  pub not_taken : {w₁ : Word} {c : Counts} {s₁ : State} → Took text w₁ c s₁ r → IsErr r → (M : Stack → Stack) (mid : Built → Built)
      → ((K : Stack) (b : Built) → runs text (P ++ K) w (pre b) s ≡ on_taken text w₁ (M K) (mid b) c) → Says text sc P Q pre h base depth w s r work
  not_taken t n M mid g = record {
    done = λ d. not_ok n d;
    refused = λ f d K b. g K b ∙ took-refused t f d (M K) (mid b);
    full = λ d. absurd (t.full d);
  }

  -- A word that does not come.
  pub not-expected : {kind : ℕ} {a : Bearing} {w₁ : Word} {s₁ : State} → Expected text kind a w₁ s₁ r → IsErr r → Seen text w₁ → 3 ≤ kind → (M : Stack → Stack) (mid : Built → Built)
      → ((K : Stack) (b : Built) → runs text (P ++ K) w (pre b) s ≡ runs text (word kind (bearing_of a) ∷ M K) w₁ (mid b) s₁) → Says text sc P Q pre h base depth w s r work
  not-expected t n z l M mid g = record {
    done = λ d. not_ok n d;
    refused = λ f d K b. g K b ∙ t.refused f d z l (M K) (mid b);
    full = λ d. absurd (t.full d);
  }

  -- A word refused.
  pub refuses : {w₁ : Word} (n : Refusal) → Refuses w₁ n r → ((K : Stack) (b : Built) → runs text (P ++ K) w (pre b) s ≡ refused (fault (positioned w₁.at) n)) → Says text sc P Q pre h base depth w s r work
  refuses n x g = record {
    done = λ d. ok_err (sym d ∙ x.refused);
    refused = λ f d K b. g K b ∙ ap refused (sym (ap faulted (same-fault (sym d ∙ x.refused)) ∙ x.is));
    full = λ d. refused_full (sym x.refused ∙ d);
  }

  -- ---- A phrase that ends with a record.

  pub made : {w₁ : Word} {s₁ : State} {bs ps work₁ : List ℕ} (t : Expression) (ns : List Noted) (x : Noted) (m : ℕ) → Gained w₁ s₁ bs ps work₁ work r
      → nodes_of sc base t ≡ ns ++ x ∷ [] → expression_size t ≡ m + 1 → held s₁.nodes work₁ ≡ with_nodes h ns → s₁.nodes ≡ base + m
      → bs ≡ node_bytes x.node → ps ≡ node_beside_bytes x.node x.places → s₁.nesting ≡ depth → Here text sc w₁ s₁ work₁
      → ((K : Stack) (b : Built) → runs text (P ++ K) w (pre b) s ≡ runs text (Q ++ K) w₁ (pushed t b) s₁) → Says text sc P Q pre h base depth w s r work
  made {w₁} {s₁} {bs} {ps} {work₁} t ns x m g e₁ e₂ e₃ e₄ e₅ e₆ e₇ e₈ c = record {
    done = λ d. read (g.done d);
    refused = λ f d. absurd (g.refused f d);
    full = g.full;
  }
    where
      read : {r' : Reached} → Behind w₁ s₁ bs ps work₁ work r' → Read text sc P Q pre h base depth w s r' work
      read y = record {
        tree = t;
        course = λ K b. c K b ∙ rw (y.word, y.state);
        pending = record {
          records = ap (λ (q : State). held q.nodes work) y.state ∙ gained-node y x e₅ e₆ ∙ ap (λ (v : Held). with_nodes v (x ∷ [])) e₃ ∙ sym (nodes-append h ns (x ∷ [])) ∙ ap (with_nodes h) (sym e₁);
          nodes = ap (λ (q : State). q.nodes) y.state ∙ omega (arith, e₂, e₄);
        };
        nesting = ap (λ (q : State). q.nesting) y.state ∙ e₇;
        here = record {
          seen = subst (Seen text) (sym y.word) e₈.seen;
          names = e₈.names ∙ sym (facilities-other text work₁ work (other-kept s₁.nodes (s₁.nodes + 1) work₁ work bs ps y.held) s₁.known) ∙ ap (λ (q : State). facility_names text work q.known) (sym y.state);
        };
      }

  -- The expression that was read is the one that was made.
  pub made_as : {w₁ : Word} {s₁ : State} {bs ps work₁ : List ℕ} (t : Expression) (ns : List Noted) (x : Noted) (m : ℕ) (g : Gained w₁ s₁ bs ps work₁ work r)
      (e₁ : nodes_of sc base t ≡ ns ++ x ∷ []) (e₂ : expression_size t ≡ m + 1) (e₃ : held s₁.nodes work₁ ≡ with_nodes h ns) (e₄ : s₁.nodes ≡ base + m)
      (e₅ : bs ≡ node_bytes x.node) (e₆ : ps ≡ node_beside_bytes x.node x.places) (e₇ : s₁.nesting ≡ depth) (e₈ : Here text sc w₁ s₁ work₁)
      (c : (K : Stack) (b : Built) → runs text (P ++ K) w (pre b) s ≡ runs text (Q ++ K) w₁ (pushed t b) s₁)
      → (y : Says text sc P Q pre h base depth w s r work) × ((r' : Reached) (d : r ≡ Ok r') → (y.done d).tree ≡ t)
  unfolding made
  made_as t ns x m g e₁ e₂ e₃ e₄ e₅ e₆ e₇ e₈ c = (made t ns x m g e₁ e₂ e₃ e₄ e₅ e₆ e₇ e₈ c, λ r' d. refl)

-- Terms: names, groups, and what no term begins with; references with one subscript or two.
use mathlib.Core.Bool.{true, false}
use mathlib.Core.List.{List, [], ◌∷◌, ◌++◌}
use mathlib.Core.Path.{◌≡◌, refl, ap, ◌∙◌}
use Prim.Native.Nat.{ℕ, ◌-◌, ◌≤◌}
use native.Mathlib.Omega.{arith}
use Rattle.language.specs.Building.{Built}
use Rattle.language.specs.Describe.{expression_size, nodes_of, noted}
use Rattle.language.specs.Description as D
use Rattle.language.specs.Kinds.{a_constant, a_name, case_word, close_paren, if_word, open_bracket, open_paren}
use Rattle.language.specs.Machine.{Counts, ask, closes, expression, subscript, subscripts, term, word}
use Rattle.language.specs.Naming.{Scope, meaning, of_facility}
use Rattle.language.specs.declared.refusals.Refusal.TheVariants.{NoContinuation}
use Rattle.language.specs.Tree as T
use Rattle.language.specs.Tree.{Expression}
use Rattle.text_words.specs.declared.Word.{Word}
use Rattle.text_words.specs.Meaning.{positioned}
use Rattle.parse_array.specs.Held.{Held, held}
use Rattle.parse_step.specs.declared.Bearing as B
use Rattle.parse_step.specs.declared.Bearing.TheVariants.{Closes, Level, Opens}
use Rattle.parse_step.specs.declared.State.{State}
use Rattle.parse_step.specs.Course.{Stack, bearing_of, borne, counts_of, kind_no, runs}
use Rattle.parse_step.specs.Says.{Here, Parses, Pending, Says, pushed}
use Rattle.parse_step.specs.Taken.{Expected, Refuses, Took, after_word}
use Rattle.parse_step.proofs.Saying.{here-passed, made, not_taken, passed, pending-kept, refuses, through}
use Rattle.parse_step.proofs.TakenWords.{took-done}
use Rattle.parse_operands.specs.References.{Adds, letters_of}
use Rattle.parse_operands.proofs.TermWords.{group-term, name-term, no-subscript, no-term, subscript-opens}
use Rattle.parse_expressions.specs.Phrases.{after_name, same}
use Rattle.parse_expressions.proofs.PartLaws.{plus-nothing, with_nothing}
use Rattle.parse_step.specs.Answers.{Answer}
use Rattle.parse_step.specs.declared.Reached.{Reached}
use Rattle.std.specs.Prelude.{IsErr, Ok}

-- ---- An answer that ends with a word that must come.

module _ {text : List ℕ} {sc : Scope} {P Q : Stack} {pre : Built → Built} {h : Held} {base depth : ℕ} {w : Word} {s : State} {work : List ℕ} where
  pub ends_with : {kind : ℕ} {a : B.Bearing} {w₁ : Word} {s₁ : State} {r : Answer} → Expected text kind a w₁ s₁ r → 3 ≤ kind → (u : Expression) → Pending sc h base u s₁ work → Here text sc w₁ s₁ work → borne a s₁.nesting ≡ depth
      → ((K : Stack) (b : Built) → runs text (P ++ K) w (pre b) s ≡ runs text (word kind (bearing_of a) ∷ (Q ++ K)) w₁ (pushed u b) s₁) → Says text sc P Q pre h base depth w s r work
  ends_with x l u p i n g = record {
    done = λ d. let y = x.done d i.seen l in
        record {
          tree = u;
          course = λ K b. g K b ∙ y.1 (Q ++ K) (pushed u b);
          pending = pending-kept p y.0.kept;
          nesting = ap (λ (c : Counts). c.nesting) y.0.counts ∙ n;
          here = here-passed i y.0;
        };
    refused = λ f d K b. g K b ∙ x.refused f d i.seen l (Q ++ K) (pushed u b);
    full = λ d. absurd (x.full d);
  }

-- An answer from a state with the same records.
pub from-kept : {text : List ℕ} {sc : Scope} {P Q : Stack} {pre : Built → Built} {w : Word} {s : State} {r : Answer} {work' : List ℕ} (work : List ℕ) (m n depth depth' : ℕ) → m ≡ n → depth ≡ depth'
    → Says text sc P Q pre (held m work) m depth w s r work' → Says text sc P Q pre (held n work) n depth' w s r work'
from-kept work m n depth depth' e f x = rw (← e, ← f) x

-- ---- Groups.

module _ {text : List ℕ} {w : Word} {s : State} {work : List ℕ} (e : kind_no w.kind ≡ open_paren) {t : Answer} (x : Took text w (after_word false Opens s) s t) where
  pub group-not : {work' : List ℕ} → IsErr t → Parses (ask term ∷ []) same s.nesting text w s work work' t
  group-not n sc h = not_taken x n (λ K. ask expression ∷ word close_paren closes ∷ K) (λ b. b) (λ K b. group-term text w h.seen b (counts_of s) e K)

  module _ {t' : Reached} (d₁ : t ≡ Ok t') {work₁ : List ℕ} {r : Answer} (y : Parses (ask expression ∷ []) same t'.state.nesting text t'.next t'.state work work₁ r) where
    group-course : {sc : Scope} → Here text sc w s work → (K : Stack) (b : Built) → runs text (ask term ∷ K) w b s ≡ runs text (ask expression ∷ word close_paren closes ∷ K) t'.next b t'.state
    group-course h K b = group-term text w h.seen b (counts_of s) e K ∙ took-done (x.done d₁) h.seen (ask expression ∷ word close_paren closes ∷ K) b

    pub inner-not : IsErr r → Parses (ask term ∷ []) same s.nesting text w s work work₁ r
    inner-not n sc h = passed (y sc (here-passed h (x.done d₁))) n (λ K. word close_paren closes ∷ K) (λ b. b) (group-course h)

    pub group-says : {r' : Reached} → r ≡ Ok r' → {a : Answer} → Expected text close_paren Closes r'.next r'.state a → Parses (ask term ∷ []) same s.nesting text w s work work₁ a
    group-says d {a} z sc h =
        let p = x.done d₁ in
        let o = (y sc (here-passed h p)).done d in
        from-kept work t'.state.nodes s.nodes s.nesting s.nesting p.kept.nodes refl
        (ends_with z (omega arith) o.tree o.pending o.here (ap (λ (n : ℕ). n - 1) (o.nesting ∙ ap (λ (c : Counts). c.nesting) p.counts) ∙ omega arith)
        (λ K b. group-course h K b ∙ o.course (word close_paren closes ∷ K) b))

-- ---- A name, and what no term begins with.

module _ {text : List ℕ} {w : Word} {s : State} {work : List ℕ} (e : kind_no w.kind ≡ a_name) {t : Answer} (x : Took text w (after_word true Level s) s t) where
  pub named-not : {work' : List ℕ} → IsErr t → Parses (ask term ∷ []) same s.nesting text w s work work' t
  named-not n sc h = not_taken x n (λ K. ask subscripts ∷ K) (after_name w text) (λ K b. name-term text w h.seen b (counts_of s) e K)

  pub named-says : {t' : Reached} → t ≡ Ok t' → {work₁ : List ℕ} {r : Answer} → Parses (ask subscripts ∷ []) (after_name w) t'.state.nesting text t'.next t'.state work work₁ r
      → Parses (ask term ∷ []) same s.nesting text w s work work₁ r
  named-says {t' = t'} d y sc h =
      let p = x.done d in
      through (from-kept work t'.state.nodes s.nodes t'.state.nesting s.nesting p.kept.nodes (ap (λ (c : Counts). c.nesting) p.counts) (y sc (here-passed h p)))
      (λ K b. name-term text w h.seen b (counts_of s) e K ∙ took-done p h.seen (ask subscripts ∷ K) (after_name w text b))

pub term-not : {text : List ℕ} {w : Word} {s : State} {work : List ℕ} {k : ℕ} {r : Answer} → k ≡ kind_no w.kind → (k ≡ a_constant → ⊥) → (k ≡ a_name → ⊥) → (k ≡ open_paren → ⊥) → (k ≡ if_word → ⊥) → (k ≡ case_word → ⊥) → Refuses w NoContinuation r
    → Parses (ask term ∷ []) same s.nesting text w s work work r
term-not {text} {w} {s} e n₁ n₂ n₃ n₄ n₅ x sc h =
    refuses NoContinuation x (λ K b. no-term text w h.seen b (counts_of s) (λ q. n₁ (e ∙ q)) (λ q. n₂ (e ∙ q)) (λ q. n₃ (e ∙ q)) (λ q. n₄ (e ∙ q)) (λ q. n₅ (e ∙ q)) K)

-- ---- A reference.

module _ {text : List ℕ} {w : Word} {s : State} {work : List ℕ} (name : Word) where
  pub whole_says : {k : ℕ} → k ≡ kind_no w.kind → (k ≡ open_bracket → ⊥) → {work' : List ℕ} {r : Answer}
      → Adds (λ sc. noted (of_facility (meaning sc (letters_of text name)) D.whole) (positioned name.at)) text w s work work' r → Parses (ask subscripts ∷ []) (after_name name) s.nesting text w s work work' r
  unfolding nodes_of expression_size
  whole_says e n y sc h =
      made (T.whole (letters_of text name) (positioned name.at)) [] (noted (of_facility (meaning sc (letters_of text name)) D.whole) (positioned name.at)) 0 (y sc h.names) refl refl (with_nothing (held s.nodes work)) (plus-nothing s.nodes) refl refl refl h
      (λ K b. no-subscript text w h.seen (counts_of s) (λ q. n (e ∙ q)) (letters_of text name) (positioned name.at) b K)

  module _ (e : kind_no w.kind ≡ open_bracket) {t : Answer} (x : Took text w (after_word false Opens s) s t) where
    pub reference-not : {work' : List ℕ} → IsErr t → Parses (ask subscripts ∷ []) (after_name name) s.nesting text w s work work' t
    reference-not n sc h = not_taken x n (λ K. ask subscript ∷ K) (after_name name text) (λ K b. subscript-opens text w h.seen (counts_of s) e (after_name name text b) K)

    pub reference-says : {t' : Reached} → t ≡ Ok t' → {work₁ : List ℕ} {r : Answer} → Parses (ask subscript ∷ []) (after_name name) (t'.state.nesting - 1) text t'.next t'.state work work₁ r
        → Parses (ask subscripts ∷ []) (after_name name) s.nesting text w s work work₁ r
    reference-says {t' = t'} d y sc h =
        let p = x.done d in
        through (from-kept work t'.state.nodes s.nodes (t'.state.nesting - 1) s.nesting p.kept.nodes (ap (λ (c : Counts). c.nesting - 1) p.counts ∙ omega arith) (y sc (here-passed h p)))
        (λ K b. subscript-opens text w h.seen (counts_of s) e (after_name name text b) K ∙ took-done p h.seen (ask subscript ∷ K) (after_name name text b))

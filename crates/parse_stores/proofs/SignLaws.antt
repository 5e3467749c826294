-- Actions of a word or two: an operation performed, `->`, `=>` and RETURN.
use mathlib.Core.Bool.{Bool, true, false}
use mathlib.Core.List.{List, [], ◌∷◌}
use mathlib.Core.Path.{◌≡◌, refl, sym, ap, ◌∙◌}
use Prim.Native.Nat.{ℕ}
use native.Mathlib.Omega.{arith}
use lib.Dec.{eqb}
use Rattle.parse_step.proofs.Paying.{pays-on, pays-refl, went-pays}
use Rattle.parse_step.proofs.Saying.{makes-it}
use Rattle.parse_step.proofs.TakenWords.{on_taken, took-done}
use Rattle.parse_step.specs.declared.Bearing.TheVariants.{Level}
use Rattle.parse_step.specs.declared.Reached as W
use Rattle.parse_step.specs.declared.State.{State}
use Rattle.parse_step.specs.Course.{Seen, Stack, counts_of, kind_no, runs}
use Rattle.parse_step.specs.Taken.{Took, Went, WentOn, after_word}
use Rattle.about_grammar.specs.Following.{among}
use Rattle.language.specs.Building.{Built, keep_word, list_no, word_no}
use Rattle.language.specs.Declaring.{tree_steps}
use Rattle.language.specs.Describe.{act, actions_in, actions_of, expressions_in, nodes_in}
use Rattle.language.specs.Description as D
use Rattle.language.specs.Kinds.{a_name, call_sign, goto_sign, return_word}
use Rattle.language.specs.Machine.{Counts, ask, keep, make, state_action}
use Rattle.language.specs.Naming as N
use Rattle.language.specs.Naming.{Scope, meaning, of_operation, of_state}
use Rattle.language.specs.Tree as T
use Rattle.language.specs.Tree.{Actions, Name}
use Rattle.language.specs.Words as L
use Rattle.parse_levels.proofs.HeadWords.{among-first-or, among_none}
use Rattle.parse_tables.specs.declared.meaning.KnownNames as M
use Rattle.parse_tables.specs.declared.meaning.Meaning.{Meaning}
use Rattle.parse_tables.specs.Known.{meant}
use Rattle.parse_operands.specs.References.{letters_of}
use Rattle.parse_expressions.specs.Phrases.{after_name, same}
use Rattle.text_words.specs.declared.Word.{Word}
use Rattle.text_words.specs.Meaning.{positioned}
use Rattle.parse_array.specs.Held.{held}
use Rattle.parse_stores.proofs.ActionWords.{call-comes, goto-comes, return-comes}
use Rattle.parse_stores.proofs.EndLaws.{ends_through, ends-unnamed, ends-untaken, reads-ended}
use Rattle.parse_stores.proofs.ReachedLaws.{counted-reached, ends_with, known-reached, nodes-none, passed-reached, start-reached, within-reached}
use Rattle.parse_stores.specs.Actions.{Acts, grown}
use Rattle.parse_stores.specs.Leaves.{KeepsName, NameMeans, Performs, Puts}
use Rattle.parse_stores.specs.Reached.{Arrows, Reached, arrow_action, arrow_step}
use Rattle.parse_step.specs.Answers.{Answer}
use Rattle.parse_step.proofs.Answers.{not_ok}
use Rattle.std.specs.Prelude.{IsErr, Ok}

-- ---- An operation performed.

module _ {text : List ℕ} {n : M.KnownNames} {name w : Word} {s : State} {work : List ℕ} {a : Answer} (t : Went name w (after_word true Level s) s a) where
  pub unperformed : IsErr a → Performs name text n w s work work a
  unperformed m q g sc st = record {
    done = λ d. not_ok m d;
    refused = λ f d K b. let e = t.refused f d in g st.seen K b ∙ rw (e.0, e.1);
    full = λ d. absurd (t.full d);
  }

  pub performs : {a' : W.Reached} → a ≡ Ok a' → (m : Meaning) → NameMeans text work n name m → {x : D.Action} → x ≡ of_operation (meant m) D.perform → {work' : List ℕ} {r : Answer} → Puts x name.at w a'.state work work' r
      → Performs name text n w s work work' r
  unfolding expressions_in nodes_in actions_in actions_of
  performs {a' = a'} d m f {x} e y q g sc st =
      reads-ended (ends_with st reached y (T.perform (letters_of text name) (positioned name.at) T.done) refl refl refl
      (ap (λ (v : D.Action). act v (positioned name.at) ∷ []) (sym (e ∙ ap (λ (v : N.Meaning). of_operation v D.perform) (f st.short sc st.known))))
      (λ K b. g st.seen K b ∙ rw (p.fits, p.counts)))
    where
      p : WentOn name w (after_word true Level s) s a'
      p = t.done d

      reached : Reached text sc 1 0 [] 0 s work w a'.state work
      reached = record {
        seen = st.seen;
        pays = pays-on (went-pays t d) (pays-refl a'.state) (omega arith);
        counted = omega (arith, ap (λ (v : Counts). v.counted) p.counts);
        nesting = ap (λ (v : Counts). v.nesting) p.counts;
        held = ap (λ (v : ℕ). held v work) p.kept.nodes ∙ sym (nodes-none (held s.nodes work));
        nodes = omega (arith, p.kept.nodes);
      }

-- ---- Behind an arrow.

abbrev arrow_tree : Bool → Name → L.Position → Actions
arrow_tree false m p = T.goto m p T.done
arrow_tree true m p = T.call m p T.done

-- What an arrow's action takes, and its step.
record ArrowLaws (sc : Scope) (call : Bool) (m : Name) (p : L.Position) : Type 0 where
  size : expressions_in (arrow_tree call m p) ≡ 0
  nodes : (base : ℕ) → nodes_in sc base (arrow_tree call m p) ≡ []
  count : actions_in (arrow_tree call m p) ≡ 1
  records : (base : ℕ) → actions_of sc base (arrow_tree call m p) ≡ act (of_state (meaning sc m) (arrow_action call)) p ∷ []
  step : (b : Built) (q : L.Position) → arrow_step call q (keep_word (L.name m p) b) ≡ grown (arrow_tree call m p) b

arrow-laws : (sc : Scope) (call : Bool) (m : Name) (p : L.Position) → ArrowLaws sc call m p
unfolding expressions_in nodes_in actions_in actions_of word_no list_no
arrow-laws sc false m p = record { size = refl; nodes = λ i. refl; count = refl; records = λ i. refl; step = λ b q. refl }
arrow-laws sc true m p = record { size = refl; nodes = λ i. refl; count = refl; records = λ i. refl; step = λ b q. refl }

module _ {text : List ℕ} {n : M.KnownNames} {w₁ : Word} {s₁ : State} {work₁ : List ℕ} {a : Answer} (t : KeepsName text w₁ s₁ a) where
  pub arrow-unnamed : (call : Bool) → IsErr a → Arrows call text n w₁ s₁ work₁ work₁ a
  arrow-unnamed call m sc w s work st x = ends-unnamed t m x.seen (within-reached st x) (λ K. make (arrow_step call) ∷ K) (λ b. b) (λ K b. refl)

  module _ {a' : W.Reached} (d : a ≡ Ok a') (m : Meaning) (f : NameMeans text work₁ n w₁ m) {x : D.Action} {work₂ : List ℕ} {r : Answer} (y : Puts x w₁.at a'.next a'.state work₁ work₂ r) where
    pub arrow-leads : (call : Bool) → x ≡ of_state (meant m) (arrow_action call) → Arrows call text n w₁ s₁ work₁ work₂ r
    arrow-leads call e sc w s work st z =
        let k = t.done d z.seen in
        let g = arrow_tree call (letters_of text w₁) (positioned w₁.at) in
        let v : x ≡ of_state (meaning sc (letters_of text w₁)) (arrow_action call) = e ∙ ap (λ (q : N.Meaning). of_state q (arrow_action call)) (f st.short sc (known-reached st z)) in
        let l = arrow-laws sc call (letters_of text w₁) (positioned w₁.at) in
        ends_with st (passed-reached st z refl k.took) y g l.size (l.nodes s.nodes) l.count
        (l.records s.nodes ∙ ap (λ (q : D.Action). act q (positioned w₁.at) ∷ []) (sym v))
        (λ K b. k.course (make (arrow_step call) ∷ K) b ∙ makes-it text (arrow_step call) K a'.next (after_name w₁ text b) (grown g b) a'.state (l.step b))

-- ---- A sign.

module _ (text : List ℕ) (w : Word) (s : State) (e : among (kind_no w.kind) (goto_sign ∷ call_sign ∷ return_word ∷ []) ≡ true) where
  arrow-comes : (kind_no w.kind ≡ return_word → ⊥) → Seen text w → (K : Stack) (b : Built)
      → runs text (ask state_action ∷ K) w b s ≡ on_taken text w (keep a_name ∷ make (arrow_step (eqb (kind_no w.kind) call_sign)) ∷ K) b (after_word true Level s)
  arrow-comes m z K b =
      let i = kind_no w.kind in
      among-first-or i goto_sign (call_sign ∷ return_word ∷ []) e (λ q. goto-comes text w z b (counts_of s) q K ∙ ap (λ (j : ℕ). on_taken text w (keep a_name ∷ make (arrow_step (eqb j 28)) ∷ K) b (after_word true Level s)) (sym q)) λ e₁.
      among-first-or i call_sign (return_word ∷ []) e₁ (λ q. call-comes text w z b (counts_of s) q K ∙ ap (λ (j : ℕ). on_taken text w (keep a_name ∷ make (arrow_step (eqb j 28)) ∷ K) b (after_word true Level s)) (sym q)) λ e₂.
      among-first-or i return_word [] e₂ (λ q. absurd (m q)) (among_none i)

  module _ {n : M.KnownNames} {work : List ℕ} {a : Answer} (t : Took text w (after_word true Level s) s a) where
    pub sign-untaken : IsErr a → Acts (ask state_action ∷ []) same text n w s work work a
    sign-untaken m sc st =
        let i = kind_no w.kind in
        among-first-or i goto_sign (call_sign ∷ return_word ∷ []) e (λ q. reads-ended (ends-untaken t m (λ K. keep a_name ∷ make tree_steps.make_goto ∷ K) (λ b. b) (λ K b. goto-comes text w st.seen b (counts_of s) q K))) λ e₁.
        among-first-or i call_sign (return_word ∷ []) e₁ (λ q. reads-ended (ends-untaken t m (λ K. keep a_name ∷ make tree_steps.make_call ∷ K) (λ b. b) (λ K b. call-comes text w st.seen b (counts_of s) q K))) λ e₂.
        among-first-or i return_word [] e₂ (λ q. reads-ended (ends-untaken t m (λ K. make tree_steps.make_return ∷ K) (λ b. keep_word (L.sign return_word (positioned w.at)) b) (λ K b. return-comes text w st.seen b (counts_of s) q K))) (among_none i)

    module _ {a' : W.Reached} (d : a ≡ Ok a') {work' : List ℕ} {r : Answer} where
      pub sign-arrow : (kind_no w.kind ≡ return_word → ⊥) → {call : Bool} → call ≡ eqb (kind_no w.kind) call_sign → Arrows call text n a'.next a'.state work work' r → Acts (ask state_action ∷ []) same text n w s work work' r
      sign-arrow m {call} q y sc st =
          reads-ended (ends_through (y sc w s work st (counted-reached st (start-reached st) d (omega arith) t))
          (λ K b. arrow-comes m st.seen K b ∙ took-done (t.done d) st.seen (keep a_name ∷ make (arrow_step (eqb (kind_no w.kind) call_sign)) ∷ K) b ∙ rw q))

      pub sign-returns : kind_no w.kind ≡ return_word → Puts D.return w.at a'.next a'.state work work' r → Acts (ask state_action ∷ []) same text n w s work work' r
      unfolding expressions_in nodes_in actions_in actions_of word_no list_no
      sign-returns q y sc st =
          let g = T.return (positioned w.at) T.done in
          let kept : Built → Built = λ b. keep_word (L.sign return_word (positioned w.at)) b in
          reads-ended (ends_with st (counted-reached st (start-reached st) d (omega arith) t) y g refl refl refl refl
          (λ K b. return-comes text w st.seen b (counts_of s) q K ∙ took-done (t.done d) st.seen (make tree_steps.make_return ∷ K) (kept b)
          ∙ makes-it text tree_steps.make_return K a'.next (kept b) (grown g b) a'.state (λ p. refl)))

-- Actions that are no conditionals: those that begin with a name, with a sign in a state, and what begins no action.
use mathlib.Core.Bool.{Bool, true, false}
use mathlib.Core.List.{List, [], ◌∷◌, ◌++◌}
use mathlib.Core.Path.{◌≡◌, sym, ap, ◌∙◌}
use Prim.Native.Nat.{ℕ}
use Rattle.language.specs.declared.refusals.Refusal.TheVariants.{NoContinuation}
use Rattle.parse_step.proofs.TakenWords.{took-done, took-refused}
use Rattle.parse_step.specs.declared.Bearing.TheVariants.{Level}
use Rattle.parse_step.specs.declared.State.{State}
use Rattle.parse_step.specs.Course.{Seen, Stack, counts_of, kind_no, runs}
use Rattle.parse_step.specs.Taken.{Passed, Refuses, Took, after_word}
use Rattle.about_grammar.specs.Following.{among}
use Rattle.language.specs.Building.{Built}
use Rattle.language.specs.Kinds.{a_name, call_sign, goto_sign, return_word}
use Rattle.language.specs.Machine.{ask, refused, state_action}
use Rattle.language.specs.Naming.{Scope}
use Rattle.language.specs.Words.{fault}
use Rattle.parse_tables.specs.declared.meaning.KnownNames.{KnownNames}
use Rattle.parse_expressions.specs.Phrases.{after_name, same}
use Rattle.parse_stores.proofs.Standings.{standing-word}
use Rattle.parse_stores.specs.Actions.{Acts, Reads}
use Rattle.text_words.specs.declared.Word.{Word}
use Rattle.text_words.specs.Meaning.{faulted, positioned}
use Rattle.parse_actions.proofs.ListLaws.{level-same}
use Rattle.parse_actions.proofs.ListWords.{name-comes, no-control, no-operation}
use Rattle.parse_actions.specs.Lists.{Named, Plain, Signed, action_ask, name_ask}
use Rattle.parse_step.specs.Answers.{Answer}
use Rattle.parse_step.specs.declared.Reached.{Reached}
use Rattle.parse_step.proofs.Answers.{not_ok, ok_err, refused_full, same-fault}
use Rattle.std.specs.Prelude.{IsErr, Ok}

-- ---- Names.

module _ (q : Bool) {text : List ℕ} {w : Word} {s : State} {t : Answer} (x : Took text w (after_word false Level s) s t) where
  name-course : {t' : Reached} → t ≡ Ok t' → kind_no w.kind ≡ a_name → Seen text w → (K : Stack) (b : Built) → runs text (ask (action_ask q) ∷ K) w b s ≡ runs text (ask (name_ask q) ∷ K) t'.next (after_name w text b) s
  name-course {t' = t'} d e z K b =
      name-comes text w z b (counts_of s) e q K ∙ took-done (x.done d) z (ask (name_ask q) ∷ K) (after_name w text b)
      ∙ ap (λ (v : State). runs text (ask (name_ask q) ∷ K) t'.next (after_name w text b) v) (level-same (x.done d))

module _ (q : Bool) {text : List ℕ} {n : KnownNames} {w : Word} {s : State} {work : List ℕ} {t : Answer} (x : Took text w (after_word false Level s) s t) where
  pub named-not : IsErr t → {work' : List ℕ} → Named q text n w s work work' t
  named-not m e sc st = record {
    done = λ d. not_ok m d;
    refused = λ f d K b. name-comes text w st.seen b (counts_of s) e q K ∙ took-refused x f d (ask (name_ask q) ∷ K) (after_name w text b);
    full = λ d. absurd (x.full d);
  }

  pub named-says : {t' : Reached} → t ≡ Ok t' → {work' : List ℕ} {r : Answer} → Acts (ask (name_ask q) ∷ []) (after_name w) text n t'.next t'.state work work' r → Named q text n w s work work' r
  named-says {t' = t'} d {work'} {r} y₀ e sc st = record {
    done = λ u. let z = y.done u in
        record { tree = z.tree; course = λ K b. name-course q x d e st.seen K b ∙ z.course K b; written = z.written; paid = z.paid; standing = z.standing };
    refused = λ f u K b. name-course q x d e st.seen K b ∙ y.refused f u K b;
    full = y.full;
  }
    where
      p : Passed text w (after_word false Level s) s t'
      p = x.done d

      y : Reads text sc n (ask (name_ask q) ∷ []) [] (after_name w text) t'.next s work work' r
      y = rw (level-same p) at (y₀ sc (standing-word false Level st p))

-- ---- What begins no action.

refuses : {text : List ℕ} {sc : Scope} {n : KnownNames} {P : Stack} {w : Word} {s : State} {work work' : List ℕ} {a : Answer} → Refuses w NoContinuation a → ((K : Stack) (b : Built) → runs text (P ++ K) w b s ≡ refused (fault (positioned w.at) NoContinuation))
    → Reads text sc n P [] (same text) w s work work' a
refuses x g = record {
  done = λ d. ok_err (sym d ∙ x.refused);
  refused = λ f d K b. g K b ∙ ap refused (sym (ap faulted (same-fault (sym d ∙ x.refused)) ∙ x.is));
  full = λ d. refused_full (sym x.refused ∙ d);
}

module _ {text : List ℕ} {n : KnownNames} {w : Word} {s : State} {work work' : List ℕ} {a : Answer} (x : Refuses w NoContinuation a) {k : ℕ} (e : k ≡ kind_no w.kind) where
  pub signed-not : {z : Bool} → z ≡ among k (goto_sign ∷ call_sign ∷ return_word ∷ []) → z ≡ false → Signed text n w s work work' a
  signed-not f g m₁ m₂ m₃ sc st = refuses x (λ K b. no-control text w st.seen b (counts_of s) m₁ (ap (λ (v : ℕ). among v (goto_sign ∷ call_sign ∷ return_word ∷ [])) (sym e) ∙ sym f ∙ g) m₂ m₃ K)

  pub operation-not : (k ≡ a_name → ⊥) → Plain false text n w s work work' a
  operation-not m₁ m₂ m₃ sc st = refuses x (λ K b. no-operation text w st.seen b (counts_of s) (λ d. m₁ (e ∙ d)) m₂ m₃ K)

pub signed-says : {text : List ℕ} {n : KnownNames} {w : Word} {s : State} {work work' : List ℕ} {r : Answer} {k : ℕ} → k ≡ kind_no w.kind → {z : Bool} → z ≡ among k (goto_sign ∷ call_sign ∷ return_word ∷ []) → z ≡ true
    → (among (kind_no w.kind) (goto_sign ∷ call_sign ∷ return_word ∷ []) ≡ true → Acts (ask state_action ∷ []) same text n w s work work' r) → Signed text n w s work work' r
signed-says e f g y m₁ m₂ m₃ = y (ap (λ (v : ℕ). among v (goto_sign ∷ call_sign ∷ return_word ∷ [])) (sym e) ∙ sym f ∙ g)

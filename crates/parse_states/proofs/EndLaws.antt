-- The end of the text, as the code reads it.
use mathlib.Core.Bool.{true, false}
use mathlib.Core.List.{List, [], ◌∷◌}
use mathlib.Core.Logic.{⊎_elim}
use mathlib.Core.Path.{◌≡◌, refl, sym, ap, ◌∙◌}
use Prim.Native.Nat.{ℕ}
use Rattle.language.specs.declared.refusals.Refusal.TheVariants.{NoContinuation}
use Rattle.parse_actions.proofs.ListLaws.{level-same}
use Rattle.parse_step.proofs.TakenWords.{on_taken, took-done, took-refused}
use Rattle.parse_step.specs.declared.Bearing.TheVariants.{Level}
use Rattle.parse_step.specs.declared.State.{State}
use Rattle.parse_step.specs.Course.{Seen, Stack, counts_of, kind_no, runs}
use Rattle.parse_step.specs.Taken.{Passed, Refuses, Took, after_word}
use Rattle.language.specs.Building.{Built}
use Rattle.language.specs.Kinds.{dollar}
use Rattle.language.specs.Machine.{ask, dollar_option, refused}
use Rattle.parse_expressions.specs.Phrases.{stayed}
use Rattle.parse_stores.proofs.Standings.{standing-word}
use Rattle.text_words.specs.declared.Word.{Word}
use Rattle.text_words.specs.Meaning.{faulted, is_end}
use Rattle.parse_states.proofs.StateWords.{dollar-comes, end-ends, no-dollar, period-ends, text-ends, text-goes-on}
use Rattle.parse_states.specs.States.{Ended, Ending, Ends, Finish, more_stack}
use Rattle.parse_step.specs.Answers.{Answer}
use Rattle.parse_step.specs.declared.Reached.{Reached}
use Rattle.parse_step.proofs.Answers.{at_ok, not_ok, ok_err, refused_full, same-fault}
use Rattle.std.specs.Prelude.{IsErr, Ok}

module _ {w : Word} {s : State} where
  pub no-word-left : is_end w.kind ≡ true → (text : List ℕ) → Finish [] text w s (Ok (stayed s w))
  no-word-left e text sc n work st = record {
    done = λ d. at_ok (Ended text [] w s) d (record { course = λ b. text-ends text w st.seen s [] b e; state = refl; seen = st.seen });
    refused = λ f d. ok_err d;
    full = λ d. ok_err d;
  }

  pub word-left : is_end w.kind ≡ false → {a : Answer} → Refuses w NoContinuation a → (text : List ℕ) → Finish [] text w s a
  word-left e x text sc n work st = record {
    done = λ d. ok_err (sym d ∙ x.refused);
    refused = λ f d b. text-goes-on text w st.seen s [] b e ∙ ap refused (sym (ap faulted (same-fault (sym d ∙ x.refused)) ∙ x.is));
    full = λ d. refused_full (sym x.refused ∙ d);
  }

-- A word is taken, and then the text ends by the stack Q.
module _ {text : List ℕ} {P : Stack} (Q : Stack) {w : Word} {s : State} {a : Answer} (t : Took text w (after_word false Level s) s a)
    (g : Seen text w → (b : Built) → runs text P w b s ≡ on_taken text w Q b (counts_of s)) where
  pub not-ended : IsErr a → Finish P text w s a
  not-ended m sc n work st = record { done = λ d. not_ok m d; refused = λ f d b. g st.seen b ∙ took-refused t f d Q b; full = λ d. absurd (t.full d) }

  pub ends-behind : {a' : Reached} → a ≡ Ok a' → {r : Answer} → Finish Q text a'.next a'.state r → Finish P text w s r
  ends-behind {a' = a'} d {r} f sc n work st = record {
    done = λ e. let v = y.done e in record { course = λ b. to-next b ∙ v.course b; state = v.state ∙ level-same p; seen = v.seen };
    refused = λ i e b. to-next b ∙ y.refused i e b;
    full = y.full;
  }
    where
      p : Passed text w (after_word false Level s) s a'
      p = t.done d

      to-next : (b : Built) → runs text P w b s ≡ runs text Q a'.next b a'.state
      to-next b = g st.seen b ∙ took-done p st.seen Q b

      y : Ends text Q a'.next a'.state r (Ended text Q a'.next a'.state)
      y = f sc n work (standing-word false Level st p)

-- ---- A dollar or nothing.

module _ {text : List ℕ} {w : Word} {s : State} where
  pub without-dollar : (kind_no w.kind ≡ dollar → ⊥) → {r : Answer} → Finish [] text w s r → Finish (ask dollar_option ∷ []) text w s r
  without-dollar m f sc n work st =
      let y = f sc n work st in
      record {
        done = λ d. let v = y.done d in record { course = λ b. no-dollar text w st.seen s [] b m ∙ v.course b; state = v.state; seen = v.seen };
        refused = λ i d b. no-dollar text w st.seen s [] b m ∙ y.refused i d b;
        full = y.full;
      }

module _ {text : List ℕ} {w : Word} (s : State) where
  pub to-dollar : kind_no w.kind ≡ dollar → Seen text w → (b : Built) → runs text (ask dollar_option ∷ []) w b s ≡ on_taken text w [] b (counts_of s)
  to-dollar k z b = dollar-comes text w z s [] b k

  pub to_end : Ending w → Seen text w → (b : Built) → runs text more_stack w b s ≡ on_taken text w (ask dollar_option ∷ []) b (counts_of s)
  to_end e z b = ⊎_elim (λ k. period-ends text w z s (ask dollar_option ∷ []) b k) (λ k. end-ends text w z s (ask dollar_option ∷ []) b k) e

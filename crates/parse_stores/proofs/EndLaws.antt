-- How the end of an action comes from what comes before it.
use mathlib.Core.Bool.{true}
use mathlib.Core.List.{List, [], ◌∷◌, ◌++◌}
use mathlib.Core.Path.{◌≡◌, sym, ap, ◌∙◌}
use Prim.Native.Nat.{ℕ, ◌+◌, ◌≤◌}
use Rattle.language.specs.declared.refusals.Refusal.{Refusal}
use Rattle.parse_step.proofs.TakenWords.{on_taken, took-refused}
use Rattle.parse_step.specs.declared.State.{State}
use Rattle.parse_step.specs.Course.{Seen, Stack, counts_of, runs}
use Rattle.parse_step.specs.Pays.{Spends}
use Rattle.parse_step.specs.Says.{Says}
use Rattle.parse_step.specs.Taken.{Refuses, Took}
use Rattle.language.specs.Building.{Built}
use Rattle.language.specs.Describe.{Noted}
use Rattle.language.specs.Kinds.{a_name}
use Rattle.language.specs.Machine.{Counts, keep, refused, within_ceilings}
use Rattle.language.specs.Naming.{Scope}
use Rattle.language.specs.Words.{fault}
use Rattle.parse_tables.specs.declared.meaning.KnownNames as M
use Rattle.text_words.specs.declared.Word.{Word}
use Rattle.text_words.specs.Meaning.{faulted, positioned}
use Rattle.parse_array.specs.Held.{Held}
use Rattle.parse_stores.proofs.ReachedLaws.{room-reached}
use Rattle.parse_stores.specs.Actions.{Reads, Standing}
use Rattle.parse_stores.specs.Leaves.{KeepsName}
use Rattle.parse_stores.specs.Reached.{Ends, Reached}
use Rattle.parse_step.specs.Answers.{Answer}
use Rattle.parse_step.proofs.Answers.{not_ok, ok_err, refused_full, same-fault}
use Rattle.std.specs.Prelude.{IsErr}

-- Where nothing came before the end, it is all.
pub reads-ended : {text : List ℕ} {sc : Scope} {n : M.KnownNames} {P : Stack} {pre : Built → Built} {w : Word} {s : State} {work work' : List ℕ} {r : Answer}
    → Ends text sc n P pre w s s work work' r → Reads text sc n P [] pre w s work work' r
reads-ended x = record {
  done = λ d. let y = x.done d in record { tree = y.tree; course = y.course; written = y.written; paid = y.paid; standing = y.standing };
  refused = x.refused;
  full = x.full;
}

module _ {text : List ℕ} {sc : Scope} {n : M.KnownNames} {P : Stack} {pre : Built → Built} {w : Word} {s s₀ : State} {work work' : List ℕ} where
  -- Behind a course.
  pub ends_through : {r : Answer} {P₁ : Stack} {pre₁ : Built → Built} {w₁ : Word} {s₁ : State} → Ends text sc n P₁ pre₁ w₁ s₁ s₀ work work' r
      → ((K : Stack) (b : Built) → runs text (P ++ K) w (pre b) s ≡ runs text (P₁ ++ K) w₁ (pre₁ b) s₁) → Ends text sc n P pre w s s₀ work work' r
  ends_through x g = record {
    done = λ d. let y = x.done d in record { tree = y.tree; course = λ K b. g K b ∙ y.course K b; written = y.written; paid = y.paid; standing = y.standing };
    refused = λ f d K b. g K b ∙ x.refused f d K b;
    full = x.full;
  }

  module _ {a : Answer} where
    -- A word that is not taken.
    pub ends-untaken : {w₁ : Word} {c : Counts} {s₁ : State} → Took text w₁ c s₁ a → IsErr a → (M : Stack → Stack) (mid : Built → Built)
        → ((K : Stack) (b : Built) → runs text (P ++ K) w (pre b) s ≡ on_taken text w₁ (M K) (mid b) c) → Ends text sc n P pre w s s₀ work work' a
    ends-untaken t m M mid g = record {
      done = λ d. not_ok m d;
      refused = λ f d K b. g K b ∙ took-refused t f d (M K) (mid b);
      full = λ d. absurd (t.full d);
    }

    -- A name that does not come.
    pub ends-unnamed : {w₁ : Word} {s₁ : State} → KeepsName text w₁ s₁ a → IsErr a → Seen text w₁ → within_ceilings (counts_of s₁) ≡ true → (M : Stack → Stack) (mid : Built → Built)
        → ((K : Stack) (b : Built) → runs text (P ++ K) w (pre b) s ≡ runs text (keep a_name ∷ M K) w₁ (mid b) s₁) → Ends text sc n P pre w s s₀ work work' a
    ends-unnamed t m z h M mid g = record {
      done = λ d. not_ok m d;
      refused = λ f d K b. g K b ∙ t.refused f d z h (M K) (mid b);
      full = λ d. absurd (t.full d);
    }

    -- A word refused.
    pub ends-refused : {w₁ : Word} (m : Refusal) → Refuses w₁ m a → ((K : Stack) (b : Built) → runs text (P ++ K) w (pre b) s ≡ refused (fault (positioned w₁.at) m))
        → Ends text sc n P pre w s s₀ work work' a
    ends-refused m x g = record {
      done = λ d. ok_err (sym d ∙ x.refused);
      refused = λ f d K b. g K b ∙ ap refused (sym (ap faulted (same-fault (sym d ∙ x.refused)) ∙ x.is));
      full = λ d. refused_full (sym x.refused ∙ d);
    }

    -- An expression that is not read; there is room for it.
    pub ends-unread : {w₀ : Word} {acts : ℕ} → Standing text sc n w₀ s₀ acts work → {more pay size p : ℕ} {ns : List Noted} {w₁ : Word} {s₁ : State} {work₁ : List ℕ} → Reached text sc more pay ns size s₀ work w₁ s₁ work₁
        → {P₁ Q₁ : Stack} {pre₁ : Built → Built} {h : Held} {base depth : ℕ} {work₂ : List ℕ} → Says text sc P₁ Q₁ pre₁ h base depth w₁ s₁ a work₂ → Spends text p w₁ s₁ a → pay + p ≤ 15
        → IsErr a → (M : Stack → Stack) (mid : Built → Built) → ((K : Stack) (b : Built) → runs text (P ++ K) w (pre b) s ≡ runs text (P₁ ++ M K) w₁ (pre₁ (mid b)) s₁)
        → Ends text sc n P pre w s s₀ work work' a
    ends-unread st x y q l m M mid g = record {
      done = λ d. not_ok m d;
      refused = λ f d K b. g K b ∙ y.refused f d (M K) (mid b);
      full = λ d. room-reached st x l (q.full d x.seen) (y.full d);
    }

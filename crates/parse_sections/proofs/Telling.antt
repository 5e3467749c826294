-- How answers that always have room come from answers.
use mathlib.Core.List.{List, ◌++◌}
use mathlib.Core.Path.{◌≡◌, sym, ◌∙◌}
use Prim.Native.Nat.{ℕ}
use Rattle.language.specs.declared.refusals.Refusal.{Refusal}
use Rattle.parse_actions.specs.Lists.{Told}
use Rattle.parse_step.proofs.Answers.{at_ok, err_as, ok_err}
use Rattle.parse_step.specs.declared.Unread.{Unread}
use Rattle.std.specs.Prelude.{Err, Ok, Result}
use Rattle.parse_step.specs.declared.State.{State}
use Rattle.parse_step.specs.Course.{Stack, runs}
use Rattle.parse_step.specs.Taken.{Refuses}
use Rattle.parse_bounds.proofs.Telling as D
use Rattle.parse_bounds.specs.Telling.{Tells, same}
use Rattle.language.specs.Building.{Built}
use Rattle.language.specs.Machine.{refused}
use Rattle.language.specs.Words.{fault}
use Rattle.text_words.specs.declared.Word.{Word}
use Rattle.text_words.specs.Meaning.{positioned}

module _ {A : Type 0} {text : List ℕ} {P : Stack} {w : Word} {s : State} {Read : A → Type 0} where
  -- What was read.
  pub told-ok : {x : A} → Read x → Told text P w s (Ok x) Read
  told-ok y = record { done = λ d. at_ok Read d y; refused = λ f d. ok_err d; full = λ d. ok_err d }

  module _ {a : Result A Unread} where
    pub told : Tells text P same w s a Read → Told text P w s a Read
    told x = record { done = λ d. x.done d; refused = x.refused; full = λ d. x.full d }

    -- A word refused.
    pub refuses : {w₁ : Word} (n : Refusal) → Refuses w₁ n a → ((K : Stack) (b : Built) → runs text (P ++ K) w b s ≡ refused (fault (positioned w₁.at) n)) → Told text P w s a Read
    refuses n x g = told (D.refuses n x g)

    -- An answer behind a course, and one that is no success.
    pub through : {P₁ : Stack} {w₁ : Word} {s₁ : State} {Read₁ : A → Type 0} → Told text P₁ w₁ s₁ a Read₁ → (M : Stack → Stack) (mid : Built → Built)
        → ((K : Stack) (b : Built) → runs text (P ++ K) w b s ≡ runs text (P₁ ++ M K) w₁ (mid b) s₁) → ((x : A) → Read₁ x → Read x) → Told text P w s a Read
    through x M mid g f = record { done = λ d. f _ (x.done d); refused = λ h d K b. g K b ∙ x.refused h d (M K) (mid b); full = λ d. x.full d }

  pub untold : {B : Type 0} {e : Unread} {P₁ : Stack} {w₁ : Word} {s₁ : State} {Read₁ : B → Type 0} → Told text P₁ w₁ s₁ (Err e) Read₁ → (M : Stack → Stack) (mid : Built → Built)
      → ((K : Stack) (b : Built) → runs text (P ++ K) w b s ≡ runs text (P₁ ++ M K) w₁ (mid b) s₁) → Told text P w s (Err e) Read
  untold x M mid g = record { done = λ d. ok_err (sym d); refused = λ h d K b. g K b ∙ x.refused h (err_as d) (M K) (mid b); full = λ d. x.full (err_as d) }

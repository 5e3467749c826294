-- How answers come from answers: a course before one, a word that is taken, expected or refused.
use mathlib.Core.List.{List, ◌∷◌, ◌++◌}
use mathlib.Core.Path.{◌≡◌, sym, ap, ◌∙◌}
use Prim.Native.Nat.{ℕ, ◌≤◌}
use Rattle.language.specs.declared.refusals.Refusal.{Refusal}
use Rattle.parse_step.proofs.TakenWords.{on_taken, took-refused}
use Rattle.parse_step.specs.declared.Bearing.{Bearing}
use Rattle.parse_step.specs.declared.State.{State}
use Rattle.parse_step.specs.Course.{Seen, Stack, bearing_of, runs}
use Rattle.parse_step.specs.Taken.{Expected, Keeps, Refuses, Took}
use Rattle.language.specs.Building.{Built}
use Rattle.language.specs.Kinds.{a_constant}
use Rattle.language.specs.Machine.{Counts, keep, refused, word}
use Rattle.language.specs.Words.{fault}
use Rattle.text_words.specs.declared.Word.{Word}
use Rattle.text_words.specs.Meaning.{faulted, positioned}
use Rattle.parse_bounds.specs.Telling.{Tells}
use Rattle.parse_step.specs.Answers.{Answer}
use Rattle.parse_step.specs.declared.Reached.{Reached}
use Rattle.parse_step.specs.declared.Unread.{Unread}
use Rattle.parse_step.proofs.Answers.{at_ok, err_as, ok_err, refused_full, same-fault}
use Rattle.std.specs.Prelude.{Err, Ok, Result}

module _ {A : Type 0} {text : List ℕ} {P : Stack} {pre : Built → Built} {w : Word} {s : State} {Read : A → Type 0} where
  -- What was read.
  pub tells-ok : {x : A} → Read x → Tells text P pre w s (Ok x) Read
  tells-ok y = record { done = λ d. at_ok Read d y; refused = λ f d. ok_err d; full = λ d. ok_err d }

  -- An answer behind a course.
  pub through : {a : Result A Unread} {P₁ : Stack} {pre₁ : Built → Built} {w₁ : Word} {s₁ : State} {Read₁ : A → Type 0} → Tells text P₁ pre₁ w₁ s₁ a Read₁ → (M : Stack → Stack) (mid : Built → Built)
      → ((K : Stack) (b : Built) → runs text (P ++ K) w (pre b) s ≡ runs text (P₁ ++ M K) w₁ (pre₁ (mid b)) s₁) → ((x : A) → Read₁ x → Read x) → Tells text P pre w s a Read
  through x M mid g f = record { done = λ d. f _ (x.done d); refused = λ h d K b. g K b ∙ x.refused h d (M K) (mid b); full = x.full }

  -- A word refused.
  pub refuses : {a : Result A Unread} {w₁ : Word} (n : Refusal) → Refuses w₁ n a → ((K : Stack) (b : Built) → runs text (P ++ K) w (pre b) s ≡ refused (fault (positioned w₁.at) n)) → Tells text P pre w s a Read
  refuses n x g = record {
    done = λ d. ok_err (sym d ∙ x.refused);
    refused = λ f d K b. g K b ∙ ap refused (sym (ap faulted (same-fault (sym d ∙ x.refused)) ∙ x.is));
    full = λ d. refused_full (sym x.refused ∙ d);
  }

  -- A word that is not taken, does not come or is no constant; or what is refused of another part.
  pub not-taken : {e : Unread} {w₁ : Word} {c : Counts} {s₁ : State} → Took text w₁ c s₁ (Err e) → (M : Stack → Stack) (mid : Built → Built)
      → ((K : Stack) (b : Built) → runs text (P ++ K) w (pre b) s ≡ on_taken text w₁ (M K) (mid b) c) → Tells text P pre w s (Err e) Read
  not-taken t M mid g = record { done = λ d. ok_err (sym d); refused = λ f d K b. g K b ∙ took-refused t f (err_as d) (M K) (mid b); full = λ d. absurd (t.full (err_as d)) }

  pub not-expected : {e : Unread} {kind : ℕ} {g : Bearing} {w₁ : Word} {s₁ : State} → Expected text kind g w₁ s₁ (Err e) → Seen text w₁ → 3 ≤ kind → (M : Stack → Stack) (mid : Built → Built)
      → ((K : Stack) (b : Built) → runs text (P ++ K) w (pre b) s ≡ runs text (word kind (bearing_of g) ∷ M K) w₁ (mid b) s₁) → Tells text P pre w s (Err e) Read
  not-expected t z l M mid g = record { done = λ d. ok_err (sym d); refused = λ f d K b. g K b ∙ t.refused f (err_as d) z l (M K) (mid b); full = λ d. absurd (t.full (err_as d)) }

  pub not-kept : {e : Unread} {w₁ : Word} {s₁ : State} → Keeps text w₁ s₁ (Err e) → Seen text w₁ → (M : Stack → Stack) (mid : Built → Built)
      → ((K : Stack) (b : Built) → runs text (P ++ K) w (pre b) s ≡ runs text (keep a_constant ∷ M K) w₁ (mid b) s₁) → Tells text P pre w s (Err e) Read
  not-kept t z M mid g = record { done = λ d. ok_err (sym d); refused = λ f d K b. g K b ∙ t.refused f (err_as d) z (M K) (mid b); full = λ d. absurd (t.full (err_as d)) }

  pub untold : {B : Type 0} {e : Unread} {P₁ : Stack} {pre₁ : Built → Built} {w₁ : Word} {s₁ : State} {Read₁ : B → Type 0} → Tells text P₁ pre₁ w₁ s₁ (Err e) Read₁ → (M : Stack → Stack) (mid : Built → Built)
      → ((K : Stack) (b : Built) → runs text (P ++ K) w (pre b) s ≡ runs text (P₁ ++ M K) w₁ (pre₁ (mid b)) s₁) → Tells text P pre w s (Err e) Read
  untold t M mid g = record { done = λ d. ok_err (sym d); refused = λ f d K b. g K b ∙ t.refused f (err_as d) (M K) (mid b); full = λ d. absurd (t.full (err_as d)) }

module _ {text : List ℕ} {P : Stack} {pre : Built → Built} {w : Word} {s : State} {a : Answer} {Read : Reached → Type 0} where
  -- A word that was taken or not.
  pub word-taken : {w₁ : Word} {c : Counts} {s₁ : State} → Took text w₁ c s₁ a → ((x : Reached) → a ≡ Ok x → Read x) → (M : Stack → Stack) (mid : Built → Built)
      → ((K : Stack) (b : Built) → runs text (P ++ K) w (pre b) s ≡ on_taken text w₁ (M K) (mid b) c) → Tells text P pre w s a Read
  word-taken t n M mid g = record { done = λ d. n _ d; refused = λ f d K b. g K b ∙ took-refused t f d (M K) (mid b); full = λ d. absurd (t.full d) }

  -- A word that must come.
  pub expected : {kind : ℕ} {g : Bearing} {w₁ : Word} {s₁ : State} → Expected text kind g w₁ s₁ a → ((x : Reached) → a ≡ Ok x → Read x) → Seen text w₁ → 3 ≤ kind → (M : Stack → Stack) (mid : Built → Built)
      → ((K : Stack) (b : Built) → runs text (P ++ K) w (pre b) s ≡ runs text (word kind (bearing_of g) ∷ M K) w₁ (mid b) s₁) → Tells text P pre w s a Read
  expected t n z l M mid g = record { done = λ d. n _ d; refused = λ f d K b. g K b ∙ t.refused f d z l (M K) (mid b); full = λ d. absurd (t.full d) }

  -- A constant that must come.
  pub constant-kept : {w₁ : Word} {s₁ : State} → Keeps text w₁ s₁ a → ((x : Reached) → a ≡ Ok x → Read x) → Seen text w₁ → (M : Stack → Stack) (mid : Built → Built)
      → ((K : Stack) (b : Built) → runs text (P ++ K) w (pre b) s ≡ runs text (keep a_constant ∷ M K) w₁ (mid b) s₁) → Tells text P pre w s a Read
  constant-kept t n z M mid g = record { done = λ d. n _ d; refused = λ f d K b. g K b ∙ t.refused f d z (M K) (mid b); full = λ d. absurd (t.full d) }

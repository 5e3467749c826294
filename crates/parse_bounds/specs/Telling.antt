-- What a parsing function answers, as a claim of the machine, whatever stack K stands below and whatever was built.
use Rattle.std.specs.Prelude.{List, ◌++◌, ◌≡◌, ℕ, Err, Ok, Result}
use Rattle.parse_step.specs.declared.State.{State}
use Rattle.parse_step.specs.declared.Unread.TheVariants as Vd
use Rattle.parse_step.specs.Course.{Stack, runs}
use Rattle.language.specs.Building.{Built}
use Rattle.language.specs.Machine.{refused}
use Rattle.text_words.specs.declared.Fault.{Fault}
use Rattle.text_words.specs.declared.Word.{Word}
use Rattle.text_words.specs.Meaning.{faulted}
use Rattle.parse_step.specs.declared.Unread.{Unread}

-- From the stack P and what `pre` makes of what was built: what was read, or the machine's refusal; there is room for everything.
pub record Tells {A : Type 0} (text : List ℕ) (P : Stack) (pre : Built → Built) (w : Word) (s : State) (a : Result A Unread) (Read : A → Type 0) : Type 0 where
  pub done : {x : A} → a ≡ Ok x → Read x
  pub refused : (f : Fault) → a ≡ Err (Vd.Refused f) → (K : Stack) (b : Built) → runs text (P ++ K) w (pre b) s ≡ refused (faulted f)
  pub full : {z : State} → a ≡ Err (Vd.Full z) → ⊥

-- Nothing went before.
abbrev pub same : Built → Built
same b = b

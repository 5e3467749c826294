-- A buffer whose first bytes are a text, and what it means to write more of the text.
use Rattle.std.specs.Prelude.{List, ◌++◌, ◌≡◌, ℕ, ◌+◌, ◌≤◌, length, take}

-- The text before `at` of the buffer B and then X is the text before r of the buffer C.
pub record Added (X B : List ℕ) (at : ℕ) (C : List ℕ) (r : ℕ) : Type 0 where
  pub place : r ≡ at + length X
  pub text : take r C ≡ take at B ++ X

-- So it is wherever there is room for X.
pub record Adds (X B : List ℕ) (at : ℕ) (C : List ℕ) (r : ℕ) : Type 0 where
  pub long : length C ≡ length B
  pub roomy : at + length X ≤ length B → Added X B at C r

-- A line of standard input as its bytes come one after the other (language, InputLines).
use Rattle.std.specs.Prelude.{cond, List, [], ◌∷◌, ◌≡◌, ℕ, ◌+◌, ◌*◌, ◌≤◌, eqb, length, take}
use Rattle.language.specs.Characters.{carriage_return, line_feed}

-- A line that an LF ends, without the CR before it.
unfoldable pub without_return : List ℕ → List ℕ
without_return [] = []
without_return (b ∷ []) = cond (eqb b carriage_return) [] (b ∷ [])
without_return (b ∷ c ∷ l) = b ∷ without_return (c ∷ l)

-- Bytes with no LF.
pub data Unended : List ℕ → Type 0 where
  nothing : Unended []
  byte : {b : ℕ} {l : List ℕ} → (b ≡ line_feed → ⊥) → Unended l → Unended (b ∷ l)

-- The line l so far stands in the first n bytes of the buffer B, or as much of it as B has room for.
pub record Held (l B : List ℕ) (n : ℕ) : Type 0 where
  pub unended : Unended l
  pub fits : n ≤ length B
  pub text : take n B ≡ take (length B) l

-- Room for a line that is longer than every stimulus, which has no more bits than a store, and for the CR before its LF.
abbrev pub held_room : ℕ
held_room = 8 * 16384 + 2

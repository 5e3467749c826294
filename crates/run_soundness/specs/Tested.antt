-- What soundness is tested against, and its tests: of the record's numbers, and of one facility's words.
use Rattle.std.specs.Prelude.{Bool, cond, true, List, ◌≡◌, ℕ, ◌/◌, ◌≤◌, leb, ltb, length}
use Rattle.std.proofs.Math.Option.{some}
use Rattle.language.specs.Description.{Description, Facility, facility_at, is_computed, sequencing_of, word_count, word_length}
use Rattle.language.specs.Encode.{state_size}
use Rattle.language.specs.RecordBytes.{returns_sound}
use Rattle.language.specs.Step.{Record}
use Rattle.language.specs.Ceilings.{most_returns}
use Rattle.store_layout.specs.Spare.{narrow_at}
use Rattle.run_references.specs.Described.{Describes}
use Rattle.run_next.specs.Values.{Valued}
use Rattle.language.specs.Tests.{both}

-- The sections of facilities, expressions and states describe d, and the sequencing register's word is no longer than a value.
pub record Testable (d : Description) (F E T : List ℕ) : Type 0 where
  pub described : Describes d F E
  pub valued : Valued d E T
  pub states : length d.states ≡ length T / state_size
  pub register : (f : ℕ) → sequencing_of d ≡ some f → word_length (facility_at d f) ≤ 256

-- The words of a facility whose first byte is at `at` have no spare bits; a computed terminal has none.
unfoldable pub narrow_in : List ℕ → ℕ → Facility → Bool
narrow_in B at f = cond (is_computed f.kind) true (narrow_at B at (word_count f) (word_length f))

-- The state is one of so many, and so are the returns held, 16 at most; unused ones are zero.
unfoldable pub record_sound : ℕ → Record → Bool
record_sound states r =
    both (ltb r.state states) (both (leb r.held most_returns) (returns_sound states r.held r.returns))

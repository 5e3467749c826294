-- What entering a state knows of the sections, and what it gives.
use Rattle.std.specs.Prelude.{Bool, true, false, List, ◌≡◌, ℕ, ◌/◌, ◌^◌, ◌≤◌, ◌<◌, length}
use Rattle.std.proofs.Math.Option.{some}
use Rattle.language.specs.Description.{Description, constant_value, facility_at, node_at, sequencing_of, state_at, word_length}
use Rattle.language.specs.Encode.{state_size}
use Rattle.language.specs.Meaning.{no_state_value}
use Rattle.language.specs.Step.{Entered, into, set_register}
use Rattle.language.specs.Store.{StoreWords, set_word}
use Rattle.run_references.specs.Described.{Describes}
use Rattle.run_next.specs.Values.{Valued}

-- The sequencing register, if there is one, is no longer than a value, and takes that of every state, whose number fits it.
pub record Holds (d : Description) : Type 0 where
  pub short : (f : ℕ) → sequencing_of d ≡ some f → word_length (facility_at d f) ≤ 256
  pub fits : (f s n : ℕ) → sequencing_of d ≡ some f → (state_at d s).value ≡ some n → (constant_value (node_at d n)).number < 2 ^ word_length (facility_at d f)
  pub takes : (f s n : ℕ) (u : StoreWords) → sequencing_of d ≡ some f → (state_at d s).value ≡ some n → set_register d (some f) (some n) u ≡ into (set_word u f 0 (constant_value (node_at d n)).number)

-- The sections of facilities, expressions and states describe d, whose sequencing register holds the values of states.
pub record Enters (d : Description) (F E T : List ℕ) : Type 0 where
  pub described : Describes d F E
  pub valued : Valued d E T
  pub register : Holds d
  pub states : length d.states ≡ length T / state_size

-- The words left, unless the state entered has no value.
abbrev pub entered : Bool → StoreWords → Entered
entered true s = into s
entered false s = Entered.stuck no_state_value

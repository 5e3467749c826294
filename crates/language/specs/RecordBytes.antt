-- The run record in bytes (docs/RECORD.md): open mark, state, cycle, held, and sixteen return states, each a 32-bit little-endian number.
use Rattle.std.specs.Prelude.{Bool, true, false, List, [], ◌∷◌, ◌++◌, ℕ, zero, suc, ◌+◌, eqb, leb, ltb, length}
use Rattle.std.proofs.Math.Option.{Option, none, some}
use Rattle.language.specs.Decode.{number_at}
use Rattle.language.specs.Description.{Description, sequencing_of}
use Rattle.language.specs.Encode.{four}
use Rattle.language.specs.Step.{Record, register_value, state_number}
use Rattle.language.specs.Ceilings.{most_returns}
use Rattle.language.specs.Store.{StoreWords, narrow}
use Rattle.language.specs.Tests.{both}

-- The letters DDLP: neither 0 nor all ones.
unfoldable pub open_mark : ℕ
open_mark = 0x504c4444

abbrev pub record_size : ℕ
record_size = 80

unfoldable pub fours : List ℕ → List ℕ
fours [] = []
fours (x ∷ xs) = four x ++ fours xs

unfoldable pub record_bytes : Record → List ℕ
unfolding fours open_mark
record_bytes r = four open_mark ++ (four r.state ++ (four r.cycle ++ (four r.held ++ fours r.returns)))

unfoldable pub returns_from : ℕ → ℕ → List ℕ → List ℕ
returns_from zero at bs = []
returns_from (suc k) at bs = number_at 4 at bs ∷ returns_from k (at + 4) bs

unfoldable pub record_from : List ℕ → Record
unfolding returns_from most_returns
record_from bs = record { state = number_at 4 4 bs; cycle = number_at 4 8 bs; held = number_at 4 12 bs; returns = returns_from most_returns 16 bs }

-- ---- Soundness (01, "Image, store, record").

-- Returns held are states, unused ones zero.
unfoldable pub returns_sound : ℕ → ℕ → List ℕ → Bool
returns_sound states held [] = true
returns_sound states zero (x ∷ xs) = both (eqb x 0) (returns_sound states zero xs)
returns_sound states (suc k) (x ∷ xs) = both (ltb x states) (returns_sound states k xs)

abbrev pub agrees : Option ℕ → Option ℕ → ℕ → Bool
agrees none v x = true
agrees (some f) none x = false
agrees (some f) (some y) x = eqb x y

-- The words have no spare bit set, and the sequencing register is the state's value.
unfoldable pub sound : Description → StoreWords → Record → Bool
unfolding returns_sound most_returns
sound d s r =
    both (ltb r.state (length d.states))
    (both (leb r.held most_returns)
    (both (returns_sound (length d.states) r.held r.returns)
    (both (narrow d.facilities s) (agrees (sequencing_of d) (state_number d r.state) (register_value d (sequencing_of d) s)))))

unfoldable pub marked : List ℕ → Bool
unfolding open_mark
marked bs = eqb (number_at 4 0 bs) open_mark

-- All names of a description, numbered over the three sections: their lengths, where they stand, those before each, and their places.
use Rattle.std.specs.Prelude.{List, [], ◌∷◌, ◌++◌, ℕ, zero, suc, ◌+◌, ◌*◌, ◌/◌, drop, get_or, length, take}
use Rattle.language.specs.Decode.{up_to}
use Rattle.language.specs.Encode.{facility_size, operation_size, state_size}
use Rattle.language.specs.Tree.{Name}
use Rattle.language.specs.Words.{Position}
use Rattle.judge_records.specs.Noted.{facility_beside, operation_beside, place_no, state_beside}

-- The lengths of k names; the first stands `at` a place, the others each `size` bytes on.
unfoldable pub lengths_at : ℕ → ℕ → ℕ → List ℕ → List ℕ
lengths_at zero at size s = []
lengths_at (suc k) at size s = get_or s at 0 ∷ lengths_at k (at + size) size s

-- Those of facilities, operations and states.
unfoldable pub lengths_of : List ℕ → List ℕ → List ℕ → List ℕ
lengths_of facilities operations states =
    lengths_at (length facilities / facility_size) 2 facility_size facilities
    ++ (lengths_at (length operations / operation_size) 0 operation_size operations ++ lengths_at (length states / state_size) 0 state_size states)

-- The bytes of the first k names.
unfoldable pub offset_of : ℕ → List ℕ → ℕ
offset_of zero ls = 0
offset_of (suc k) ls = offset_of k ls + get_or ls k 0

-- Name k, of names with these lengths.
unfoldable pub name_no : List ℕ → List ℕ → ℕ → Name
name_no ls names k = take (get_or ls k 0) (drop (offset_of k ls) names)

-- The names before name k.
unfoldable pub earlier : List ℕ → List ℕ → ℕ → List Name
earlier ls names zero = []
earlier ls names (suc k) = name_no ls names k ∷ earlier ls names k

-- The places of names, joined from those of the three sections.
unfoldable pub places_of : List ℕ → List ℕ → List ℕ → List Position
places_of facilities operations states =
    up_to (λ n. place_no facilities (6 * n)) 0 (length facilities / facility_beside)
    ++ (up_to (place_no operations) 0 (length operations / operation_beside) ++ up_to (λ n. place_no states (2 * n)) 0 (length states / state_beside))

-- Names that stand one after the other, by the lengths that records have.
use Rattle.std.specs.Prelude.{Bool, true, List, ℕ, zero, suc, ◌+◌, ◌/◌, drop, get_or, length, take}
use Rattle.language.specs.Canonical.{all, label_right, name_right}
use Rattle.language.specs.Decode.{names_length, states_at}
use Rattle.image_sections.specs.declared.header.Counts.{Counts}
use Rattle.language.specs.Encode.{facility_size, operation_size, state_size}
use Rattle.language.specs.Tests.{both}

-- The names of k records of a size, the first one's length at `at`.
unfoldable pub names_right : ℕ → ℕ → ℕ → List ℕ → List ℕ → Bool
names_right zero at size s names = true
names_right (suc k) at size s names = both (name_right (take (get_or s at 0) names)) (names_right k (at + size) size s (drop (get_or s at 0) names))

-- The labels of the states of a section.
unfoldable pub labels_right : List ℕ → List ℕ → Bool
labels_right s names = all (λ x. label_right x.name x.value) (states_at (length s / state_size) 0 s names)

-- The names of facilities, operations and states, one after the other.
unfoldable pub named_right : Counts → List ℕ → List ℕ → List ℕ → List ℕ → Bool
named_right c f o s names =
    let second = drop (names_length c.facilities 2 facility_size f) names in
    let third = drop (names_length c.operations 0 operation_size o) second in
    both (names_right c.facilities 2 facility_size f names) (both (names_right c.operations 0 operation_size o second) (labels_right s third))

-- Where names stand: one after the other, of facilities, operations and states.
use Rattle.std.specs.Prelude.{List, ℕ, ◌+◌, drop, take}
use Rattle.language.specs.Decode.{names_length}
use Rattle.language.specs.Encode.{facility_size, operation_size, state_size}
use Rattle.language.specs.Lookups as L
use Rattle.image_sections.specs.Declarations.{name_length_in}
use Rattle.image_sections.specs.declared.names.Part.{Part}

abbrev pub part_meant : Part → L.Part
part_meant p = record { offset = p.offset; length = p.length }

-- In a section of facilities, the n-th name.
unfoldable pub facility_part : List ℕ → ℕ → L.Part
facility_part facilities n = record { offset = names_length n 2 facility_size facilities; length = name_length_in facility_size 2 facilities n }

-- After `count` facilities' names, the n-th operation's.
unfoldable pub operation_part : List ℕ → ℕ → List ℕ → ℕ → L.Part
operation_part facilities count operations n =
    record {
      offset = names_length count 2 facility_size facilities + names_length n 0 operation_size operations;
      length = name_length_in operation_size 0 operations n;
    }

-- After those and the names of `more` operations, the n-th state's.
unfoldable pub state_part : List ℕ → ℕ → List ℕ → ℕ → List ℕ → ℕ → L.Part
state_part facilities count operations more states n =
    record {
      offset = names_length count 2 facility_size facilities + names_length more 0 operation_size operations + names_length n 0 state_size states;
      length = name_length_in state_size 0 states n;
    }

-- The part itself.
abbrev pub named : L.Part → List ℕ → List ℕ
named p names = take p.length (drop p.offset names)

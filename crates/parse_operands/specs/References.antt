-- References as records, and the words in brackets.
use Rattle.std.specs.Prelude.{List, map, ◌≡◌, ℕ, drop, take}
use Rattle.std.proofs.Math.Option.{Option, none, some}
use Rattle.language.specs.Characters.{folded}
use Rattle.language.specs.Describe.{Noted, bounds_of, noted_part}
use Rattle.language.specs.Description as D
use Rattle.language.specs.Description.{Node}
use Rattle.language.specs.Encode.{node_bytes}
use Rattle.language.specs.Naming.{Scope, meaning, of_facility}
use Rattle.language.specs.Notions.{pair_of}
use Rattle.language.specs.Scan.{written}
use Rattle.language.specs.Tree.{Ends, Name}
use Rattle.judge_records.specs.Noted.{node_beside_bytes}
use Rattle.value_operators.specs.Meaning.{valued}
use Rattle.text_words.specs.declared.Word.{Word}
use Rattle.text_words.specs.Meaning.{positioned}
use Rattle.parse_tables.specs.Names.{facility_names}
use Rattle.parse_step.specs.declared.State.{State}
use Rattle.parse_step.specs.Gained.{Gained}
use Rattle.parse_step.specs.Answers.{Answer}

-- A name in capitals.
abbrev pub letters_of : List ℕ → Word → Name
letters_of text w = map folded (take w.size (drop w.at.place text))

abbrev pub of_found : Option ℕ → (ℕ → Node) → Node
of_found none f = D.Node.broken
of_found (some k) f = f k

abbrev pub of_known : Option ℕ → ℕ → ℕ
of_known none n = 0
of_known (some k) n = n

abbrev pub ends_of : Word → Word → Ends
ends_of a b = pair_of (written a.bare (valued a.value)) (positioned a.at) (written b.bare (valued b.value)) (positioned b.at)

abbrev pub part_of : List ℕ → Word → Word → Word → Scope → Noted
part_of text name a b sc = noted_part (of_facility (meaning sc (letters_of text name)) (λ k. D.part k (bounds_of (ends_of a b)))) (positioned name.at) (ends_of a b)

abbrev pub word_part_of : List ℕ → Word → ℕ → Word → Word → Scope → Noted
word_part_of text name e a b sc = noted_part (of_facility (meaning sc (letters_of text name)) (λ k. D.word_part k e (bounds_of (ends_of a b)))) (positioned name.at) (ends_of a b)

-- A record is added, by what its name means in a scope that has the facilities known.
abbrev pub Adds : (Scope → Noted) → List ℕ → Word → State → List ℕ → List ℕ → Answer → Type 0
Adds X text next s work work' r =
    (sc : Scope) → sc.facilities ≡ facility_names text work s.known
    → Gained next s (node_bytes (X sc).node) (node_beside_bytes (X sc).node (X sc).places) work work' r

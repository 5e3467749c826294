-- The facilities of a text, as the tables have them, show the length of its sequencing register.
use mathlib.Core.List.{List, [], ◌∷◌, ◌++◌}
use mathlib.Core.Option.{Option, none, some}
use mathlib.Core.Path.{◌≡◌, refl, ap, ◌∙◌}
use Prim.Native.Nat.{ℕ, ◌≤◌}
use native.Mathlib.Omega.{arith}
use lib.ListN.{get_or, length, length-append, length-map}
use Rattle.parse_facilities.specs.Listed.{besides}
use Rattle.judge_all.proofs.NotedLaws.{declared-noted}
use Rattle.judge_all.specs.InSlices.{Declared}
use Rattle.language.specs.Describe.{Noted, actions_of, nodes_in}
use Rattle.language.specs.DescribeText.{facilities_of, facility_nodes, function_sizes, operation_actions, operation_nodes, operations_of, state_actions, state_nodes, states_of}
use Rattle.language.specs.Description.{Description, Facility, Places, facility_at, no_facility, nowhere, sequencing_from, sequencing_of, word_length}
use Rattle.language.specs.Encode.{facility_records, sections_of}
use Rattle.language.specs.Naming.{Scope, no_state}
use Rattle.language.specs.Rules as R
use Rattle.language.specs.Rules.{sequencing_length}
use Rattle.language.specs.Tree.{Text}
use Rattle.about_rules.specs.LegalTexts.{facilities-nodes}
use Rattle.about_rules.specs.Sizes.{facilities-count}
use Rattle.about_rules.specs.Tidy.{TextTidy}
use Rattle.about_rules.specs.WithinCounts.{declarations_of}
use Rattle.judge_records.specs.Noted.{facility_beside_bytes, places_in}
use Rattle.parse_states.specs.Begins.{length_of, plain_at}
use Rattle.parse_held.proofs.NotedBack.{description-back}
use Rattle.parse_held.proofs.TextFits.{text-readable}
use Rattle.parse_held.specs.NearTexts.{TextNear}
use Rattle.parse_held.specs.Standing.{Readable, beside_of, zipped}
use Rattle.call_read.proofs.LengthLaws.{Lends}
use Rattle.call_read.proofs.WholeLaws.{besides-zipped}
use Rattle.call_read.specs.Lengths.{lending}

-- The length of a facility's word, where there is a facility.
abbrev pub length_no : List Facility → Option ℕ → Option ℕ
length_no fs none = none
length_no fs (some n) = some (word_length (get_or fs n no_facility))

-- That of the sequencing register among some facilities.
abbrev pub register_length : List Facility → Option ℕ
register_length fs = length_no fs (sequencing_from 0 fs)

length_found : (d : Description) (p : Places) → sequencing_length d p ≡ register_length d.facilities
unfolding sequencing_length sequencing_of facility_at
length_found d p = go (sequencing_from 0 d.facilities)
  where
    go : (n : Option ℕ) → R.length_if_any d p n ≡ length_no d.facilities n
    go none = refl
    go (some n) = refl

-- Of a description that sections and places hold.
lent_by : (d : Description) (p : Places) (l : ℕ) → Readable d p → Lends l (facility_records 0 d.facilities) (zipped facility_beside_bytes d.facilities p.facilities) → length_of l ≡ lending (register_length d.facilities)
unfolding sections_of beside_of
lent_by d p l h f =
    f (sections_of d).expressions (beside_of d p).expressions d (places_in (beside_of d p)) shown ∙ ap lending (length_found d (places_in (beside_of d p)))
  where
    shown : Declared (sections_of d).facilities (sections_of d).expressions (beside_of d p).facilities (beside_of d p).expressions d (places_in (beside_of d p))
    shown = rw (description-back d p h) at (declared-noted (sections_of d) (beside_of d p))

-- Of the facilities of a text: they are those of the text with one empty state and no operations, which is readable whatever its states are.
module _ {text : List ℕ} (t : Text) (tidy : TextTidy t) (near : TextNear text t) (few : length (declarations_of t) ≤ 256) (small : function_sizes (declarations_of t) ≤ 65535) where
  abbrev bare : Text
  bare = record { registers = t.registers; memories = t.memories; terminals = t.terminals; operations = []; states = plain_at nowhere ∷ [] }

  bare-tidy : TextTidy bare
  bare-tidy = record {
    registers = tidy.registers;
    memories = tidy.memories;
    terminals = tidy.terminals;
    operations = tt;
    states = ((tt, tt), tt);
    some-facility = tidy.some-facility;
    some-state = λ e. let z : ◌≡◌ {A = ℕ} 1 0 = ap length e in omega arith;
  }

  bare-near : TextNear text bare
  bare-near = record { registers = near.registers; memories = near.memories; terminals = near.terminals; operations = tt; states = ((omega arith, (tt, tt)), tt) }

  abbrev nobody : Scope
  nobody = record { facilities = []; operations = []; state_named = no_state }

  pub register-lent : (l : ℕ) → Lends l (facility_records 0 (facilities_of 0 (declarations_of t))) (besides 0 (declarations_of t)) → length_of l ≡ lending (register_length (facilities_of 0 (declarations_of t)))
  unfolding operation_nodes state_nodes nodes_in operations_of states_of operation_actions state_actions actions_of
  register-lent l f =
      lent_by _ _ l
      (text-readable bare bare-tidy bare-near none tt nobody (omega arith) (omega arith) (λ n k h e. absurd (let z : ◌≡◌ {A = ℕ} 0 1 = cc in omega arith))
      (record {
        facilities = omega (arith, facilities-count 0 (declarations_of t));
        operations = omega arith;
        expressions = omega (
          arith,
          length-map (facility_nodes [] 0 (declarations_of t) ++ []) (λ (n : Noted). n.node),
          length-append (facility_nodes [] 0 (declarations_of t)) [],
          facilities-nodes [] 0 (declarations_of t),
        );
        actions = omega arith;
        states = omega arith;
      }))
      (rw (besides-zipped 0 (declarations_of t)) at f)

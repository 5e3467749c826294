-- THE ARRAY HOLDS A TEXT: where the tables have the description of a tidy text and its places, what is judged of them is what the text is refused for, and their image is its image.
use mathlib.Core.List.{List}
use mathlib.Core.Path.{◌≡◌, ap}
use Prim.Native.Nat.{ℕ, ◌*◌, ◌≤◌}
use native.Mathlib.Omega.{arith}
use lib.ListN.{length, length-take}
use Rattle.image_sections.proofs.WrittenDeclarations.{operation-length, state-length}
use Rattle.language.specs.DescribeText.{describe}
use Rattle.language.specs.Description.{Description}
use Rattle.language.specs.Encode.{action_bytes, action_size, node_bytes, node_size, operation_record, operation_size, state_record, state_size}
use Rattle.language.specs.Grammar.{Is}
use Rattle.language.specs.Notions as N
use Rattle.language.specs.Notions.{whole_text}
use Rattle.language.specs.Rules.{faults}
use Rattle.language.specs.Tree.{Text}
use Rattle.language.specs.WordStage.{least, scan}
use Rattle.about_rules.specs.RightWords.{words_right}
use Rattle.about_rules.specs.Tidy.{TextTidy}
use Rattle.about_rules.specs.TidyTexts.{tidy}
use Rattle.judge_records.specs.Noted.{noted_description, places_in}
use Rattle.image_records.proofs.ActionLaws.{action-length}
use Rattle.image_records.proofs.WrittenNodes.{node-length}
use Rattle.parse_tables.specs.declared.Table.TheVariants as T
use Rattle.parse_array.specs.Held.{held}
use Rattle.about_images.specs.Rows.{facilities-length, row-length}
use Rattle.parse_held.proofs.BodyLaws.{row-most}
use Rattle.parse_held.proofs.NearTrees.{text-near}
use Rattle.parse_held.proofs.NotedBack.{faults-stand}
use Rattle.parse_held.proofs.StandingLaws.{names_stand}
use Rattle.parse_held.proofs.TextFits.{Counted, readable, text-names}
use Rattle.parse_held.specs.declared.Holding.{Holding}
use Rattle.parse_held.specs.Sections.{Few, beside_held, most_letters, names_held, sections_held}
use Rattle.parse_held.specs.Standing.{Stands, StandsBeside}

nodes-most : (n : ℕ) (w : List ℕ) → length (held n w).nodes ≤ node_size * n
unfolding held
nodes-most n w = omega (arith, length-take (node_size * n) w)

-- A description that stands in the tables has as many records as they have room for.
counted : {text w : List ℕ} {c : Holding} (d : Description) → Few c → Stands text w c d → Counted d
counted {w = w} {c} d few h = record {
  facilities = omega (arith, few.facilities, row-most T.Facilities c.facilities w, ap length h.facilities, facilities-length d.facilities);
  operations = omega (arith, few.operations, row-most T.Operations c.operations w, ap length h.operations, row-length operation_record operation_size operation-length d.operations);
  expressions = omega (arith, few.nodes, nodes-most c.nodes w, ap length h.expressions, row-length node_bytes node_size node-length d.expressions);
  actions = omega (arith, few.actions, row-most T.Actions c.actions w, ap length h.actions, row-length action_bytes action_size action-length d.actions);
  states = omega (arith, few.states, row-most T.States c.states w, ap length h.states, row-length state_record state_size state-length d.states);
}

-- The text is at most 32,768 bytes long, and the grammar derives the tree from its words.
module _ (text w : List ℕ) (c : Holding) (t : Text) {n : ℕ} (short : length text ≤ 32768) (derived : Is whole_text n (scan text).words (N.text t)) (few : Few c) (h : Stands text w c (describe t).description) where
  text-tidy : TextTidy t
  text-tidy = tidy derived (words_right text)

  -- Its names have room where judging puts them.
  pub names-room : length (names_held text w c) ≤ most_letters
  names-room = rw (names_stand h) (text-names t text-tidy (text-near text short t derived) (counted (describe t).description few h))

  pub text-judged : StandsBeside w c (describe t).description (describe t).places
      → least (faults (noted_description (sections_held text w c) (beside_held w c)) (places_in (beside_held w c))) ≡ least (faults (describe t).description (describe t).places)
  text-judged b = faults-stand text w c (describe t).description (describe t).places h b (readable t text-tidy (text-near text short t derived) (counted (describe t).description few h))

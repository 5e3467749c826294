-- THE ROOM OF AN IMAGE (docs/IMAGE.md): 165,556 bytes hold the image of every legal text, so that no buffer of that length is too short. Assumes nothing.
use Rattle.std.specs.Prelude.{List, [], ◌∷◌, ◌++◌, map, ◌≡◌, refl, ℕ, ◌+◌, ◌*◌, ◌≤◌, length}
use Rattle.std.proofs.Math.Option.{Option}
use native.Mathlib.Omega.{arith}
use Rattle.std.proofs.Math.ListN.{length-append}
use Rattle.std.proofs.lemmas.List.{length-map}
use Rattle.language.specs.Canonical.{total}
use Rattle.language.specs.CountedWords.{counted_words}
use Rattle.language.specs.Describe.{Noted, NotedAction, actions_in}
use Rattle.language.specs.DescribeText as X
use Rattle.language.specs.DescribeText.{describe, facilities_of, facility_nodes, function_size, length_at, operation_actions, operation_expressions, operation_nodes, operation_records, operations_of, state_actions, state_nodes, states_of}
use Rattle.language.specs.Description as D
use Rattle.language.specs.Description.{Description, Facility, sequencing_from}
use Rattle.language.specs.Encode.{concat, encode, facility_size, header_size, name_bytes, operation_size, state_size}
use Rattle.language.specs.Ceilings.{longest_text, most_counted, most_facilities, most_operations, most_states}
use Rattle.language.specs.Naming.{Scope}
use Rattle.language.specs.Reading.{legal, read_text}
use Rattle.language.specs.Tree.{Declaration, Operation, State, Text}
use Rattle.about_rules.specs.InOrder.{state_expressions}
use Rattle.about_rules.specs.LegalTexts.{facilities-nodes, operations-nodes, states-nodes}
use Rattle.about_rules.specs.RightWords.{words_right}
use Rattle.about_rules.specs.Runs.{operations-size, state_records, states-size}
use Rattle.about_rules.specs.Sizes.{facilities-count, operations-count, states-count}
use Rattle.about_rules.specs.TidyTexts.{tidy}
use Rattle.about_rules.specs.WithinCounts.{declarations_of, names_in, terminals-alone}
use Rattle.about_texts.specs.NameRoom.{declared_letters, label_letters, names-within, operation_letters, scan-letters, text_letters}
use Rattle.about_texts.specs.RecordRoom.{lent-so, room, value_room, word_room}
use Rattle.about_reading.specs.ReadsExactly.{LegalText}
use Rattle.about_reading.proofs.ReadsExactly.{accepted}
use Rattle.about_images.specs.Names.{names-length}
use Rattle.about_images.specs.Whole.{encode-long}

-- The header; as many facilities, operations and states as the ceilings allow; the records of all counted words and of a value for each state; and names, which all stand in the text.
unfoldable pub largest_image : ℕ
unfolding most_facilities most_operations most_states most_counted longest_text
largest_image = header_size + facility_size * most_facilities + operation_size * most_operations + state_size * most_states + word_room * most_counted + value_room * most_states + longest_text

pub largest-image : largest_image ≡ 165556
unfolding largest_image most_facilities most_operations most_states most_counted longest_text
largest-image = refl

-- ---- The letters of the names that a description has are those of the text's.

facility-letters : (base : ℕ) (ds : List Declaration) → total (λ (f : Facility). length f.name) (facilities_of base ds) ≡ declared_letters ds
unfolding total facilities_of
facility-letters base [] = refl
facility-letters base (d ∷ ds) = omega (arith, facility-letters (base + function_size d.function) ds)

operation-letters : (a : ℕ) (os : List Operation) → total (λ (o : D.Operation). length o.name) (operations_of a os) ≡ operation_letters os
unfolding total operations_of
operation-letters a [] = refl
operation-letters a (o ∷ os) = omega (arith, operation-letters (a + actions_in o.body) os)

state-letters : (l : Option ℕ) (base a : ℕ) (ss : List State) → total (λ (s : D.State). length s.name) (states_of l base a ss) ≡ label_letters ss
unfolding total states_of
state-letters l base a [] = refl
state-letters l base a (s ∷ ss) = omega (arith, state-letters l (base + X.expressions_of_state l s) (a + actions_in s.actions) ss)

declared-append : (xs ys : List Declaration) → declared_letters (xs ++ ys) ≡ declared_letters xs + declared_letters ys
unfolding total
declared-append [] ys = omega arith
declared-append (x ∷ xs) ys = omega (arith, declared-append xs ys)

-- ---- How many records it has.

module _ (t : Text) (l : Option ℕ) (scope : Scope) (first second : ℕ) where
  abbrev all_nodes : List Noted
  all_nodes = facility_nodes [] 0 (declarations_of t) ++ (operation_nodes (names_in t) [] first t.operations ++ state_nodes l scope second t.states)

  abbrev all_actions : List NotedAction
  all_actions = operation_actions (names_in t) [] first t.operations ++ state_actions l scope second t.states

  nodes-length : length (map (λ (n : Noted). n.node) all_nodes) ≡ X.function_sizes (declarations_of t) + operation_expressions t.operations + state_expressions l t.states
  nodes-length =
      let fs = facility_nodes [] 0 (declarations_of t) in
      let os = operation_nodes (names_in t) [] first t.operations in
      let ss = state_nodes l scope second t.states in
      omega (arith, length-map all_nodes (λ (n : Noted). n.node), length-append fs (os ++ ss), length-append os ss, facilities-nodes [] 0 (declarations_of t), operations-nodes (names_in t) [] first t.operations, states-nodes l scope second t.states)

  actions-length : length (map (λ (a : NotedAction). a.action) all_actions) ≡ operation_records t.operations + state_records t.states
  actions-length =
      omega (arith, length-map all_actions (λ (a : NotedAction). a.action), length-append (operation_actions (names_in t) [] first t.operations) (state_actions l scope second t.states), operations-size (names_in t) [] first t.operations, states-size l scope second t.states)

-- ---- The whole.

-- The length that the sequencing register lends to values of states.
abbrev lent_in : Text → Option ℕ
lent_in t = let fs = facilities_of 0 (declarations_of t) in length_at fs (sequencing_from 0 fs)

module _ (t : Text) where
  abbrev d : Description
  d = (describe t).description

  facilities-long : length (describe t).description.facilities ≡ length (declarations_of t)
  unfolding describe
  facilities-long = facilities-count 0 (declarations_of t)

  operations-long : length (describe t).description.operations ≡ length t.operations
  unfolding describe
  operations-long = operations-count 0 t.operations

  states-long : length (describe t).description.states ≡ length t.states
  unfolding describe
  states-long = states-count _ _ _ t.states

  expressions-long : length (describe t).description.expressions ≡ X.function_sizes (declarations_of t) + operation_expressions t.operations + state_expressions (lent_in t) t.states
  unfolding describe
  expressions-long = nodes-length t _ _ _ _

  actions-long : length (describe t).description.actions ≡ operation_records t.operations + state_records t.states
  unfolding describe
  actions-long = actions-length t _ _ _ _

  facilities-lettered : total (λ (f : Facility). length f.name) (describe t).description.facilities ≡ declared_letters (declarations_of t)
  unfolding describe
  facilities-lettered = facility-letters 0 (declarations_of t)

  operations-lettered : total (λ (o : D.Operation). length o.name) (describe t).description.operations ≡ operation_letters t.operations
  unfolding describe
  operations-lettered = operation-letters 0 t.operations

  states-lettered : total (λ (x : D.State). length x.name) (describe t).description.states ≡ label_letters t.states
  unfolding describe
  states-lettered = state-letters _ _ _ t.states

  names-long : length (name_bytes (describe t).description) ≡ text_letters t
  unfolding name_bytes
  names-long =
      let fs = concat (λ (f : Facility). f.name) d.facilities in
      let os = concat (λ (o : D.Operation). o.name) d.operations in
      let ss = concat (λ (x : D.State). x.name) d.states in
      omega (
        arith,
        length-append fs (os ++ ss),
        length-append os ss,
        names-length (λ (f : Facility). f.name) d.facilities,
        names-length (λ (o : D.Operation). o.name) d.operations,
        names-length (λ (x : D.State). x.name) d.states,
        facilities-lettered,
        operations-lettered,
        states-lettered,
        declared-append t.registers (t.memories ++ t.terminals),
        declared-append t.memories t.terminals,
      )

-- At most 165,556 bytes.
pub image-room : (s : List ℕ) (t : Text) → LegalText s t → length (encode (describe t).description) ≤ largest_image
unfolding largest_image counted_words longest_text
image-room s t h =
    let w = words_right s in
    let r = room (lent_in t) (lent-so (facilities_of 0 (declarations_of t)) (sequencing_from 0 (facilities_of 0 (declarations_of t)))) h.derived w in
    omega (
      arith,
      encode-long (describe t).description,
      facilities-long t,
      operations-long t,
      states-long t,
      expressions-long t,
      actions-long t,
      names-long t,
      names-within h.derived,
      scan-letters s,
      h.short,
      h.within.facilities,
      h.within.operations,
      h.within.states,
      h.within.counted,
      terminals-alone t (tidy h.derived w),
      r,
      length-append t.registers (t.memories ++ t.terminals),
      length-append t.memories t.terminals,
    )

-- So is it for whatever reading accepts: it never refuses a text for its room (12).
pub read_fits : (s : List ℕ) (d : Description) → read_text s ≡ legal d → length (encode d) ≤ largest_image
read_fits s d e = let a = accepted s d e in rw a.described at (image-room s a.tree a.legal-text)

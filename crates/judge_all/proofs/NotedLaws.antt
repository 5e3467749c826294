-- What sections and the places beside them show, as judging takes it.
use mathlib.Core.Bool.{Bool, true, false}
use mathlib.Core.List.{List}
use mathlib.Core.Option.{none}
use mathlib.Core.Path.{◌≡◌, refl, sym, ap, ◌∙◌}
use Prim.Native.Nat.{ℕ, ◌+◌, ◌*◌, ◌/◌, ◌<◌}
use lib.Dec.{leb}
use lib.ListN.{drop, length, take}
use lib.Seq.{drop-drop}
use Rattle.image_sections.proofs.DescribedLaws.{operation-described, operations-count, state-described, states-count}
use Rattle.image_sections.specs.Declarations.{OperationRead, StateRead, name_length_in, run_meant, state_in, state_meant}
use Rattle.image_sections.specs.Names.{facility_part, named, operation_part, state_part}
use Rattle.image_sections.specs.declared.operations.OperationRecord as O
use Rattle.image_sections.specs.declared.states.StateRecord as S
use Rattle.language.specs.Decode.{half_at, names_length, pick, run_at, value_of}
use Rattle.language.specs.Description.{Facility, Operation, State, facility_at, no_run, operation_at, state_at}
use Rattle.language.specs.Expressions.{terminal_below}
use Rattle.language.specs.Encode.{Sections, facility_size, operation_size, state_size}
use Rattle.judge_records.proofs.NotedLaws.{action-noted, action-place, count-noted, facility-noted, facility-places, kind-noted, node-noted, node-places, operation-noted, state-noted, state-places}
use Rattle.judge_records.specs.Noted.{Beside, noted_description, places_in, widened_facility}
use Rattle.judge_records.specs.Read.{FacilityRead, facility_meant}
use Rattle.judge_records.specs.declared.facilities.Facility as N
use Rattle.judge_terms.specs.Shown.{Records, Shown, node_noted}
use Rattle.judge_all.specs.InSlices.{Acting, Declared}
use Rattle.judge_all.specs.Stated.{Stated}

module _ (x : Sections) (q : Beside) where
  pub records-noted : Records x.expressions q.expressions (noted_description x q) (places_in q)
  unfolding node_noted
  records-noted = record { nodes = node-noted x q; places_of = node-places q }

  facility-read : (n : ℕ) → n < length x.facilities / facility_size → (f : N.Facility) → FacilityRead x.facilities q.facilities n f
      → facility_meant (facility_at (noted_description x q) n).name f ≡ facility_at (noted_description x q) n
  unfolding widened_facility
  facility-read n h f r =
      let e = facility-noted x q n h in
      let m = r.meaning h (named (facility_part x.facilities n) x.names) in
      let k : (facility_at (noted_description x q) n).name ≡ named (facility_part x.facilities n) x.names = ap (λ (y : Facility). y.name) (e ∙ sym m) in
      ap (λ (y : List ℕ). facility_meant y f) k ∙ m ∙ sym e

  pub declared-noted : Declared x.facilities x.expressions q.facilities q.expressions (noted_description x q) (places_in q)
  declared-noted = record {
    records = records-noted;
    count = count-noted x q;
    facility = facility-read;
    kind = kind-noted x q;
    place = facility-places q;
  }

  -- ---- Actions, operations and states; the names of states come after those of facilities and operations.

  abbrev pub state_names : List ℕ
  state_names = drop (names_length (length x.facilities / facility_size) 2 facility_size x.facilities + names_length (length x.operations / operation_size) 0 operation_size x.operations) x.names

  abbrev name_no : ℕ → List ℕ
  name_no n = named (state_part x.facilities (length x.facilities / facility_size) x.operations (length x.operations / operation_size) x.states n) x.names

  state-is : (n : ℕ) → state_at (noted_description x q) n ≡ state_in x.states n (name_no n)
  state-is n = state-noted x q n ∙ state-described x n

  either-name : (b : Bool) (y z : State) (name : List ℕ) → y.name ≡ name → z.name ≡ name → (pick {A = State} b y z).name ≡ name
  either-name true y z name e f = e
  either-name false y z name e f = f

  name_in : (s : List ℕ) (n : ℕ) (name : List ℕ) → (state_in s n name).name ≡ name
  unfolding state_in
  name_in s n name =
      either-name (leb (state_size * n + state_size) (length s)) (record { name = name; value = value_of (half_at (state_size * n + 1) s); actions = run_at (state_size * n + 3) s })
      (record { name = name; value = none; actions = no_run }) name refl refl

  state-label : (n : ℕ) → (state_at (noted_description x q) n).name ≡ take (name_length_in state_size 0 x.states n) (drop (names_length n 0 state_size x.states) state_names)
  unfolding state_part
  state-label n =
      ap (λ (y : State). y.name) (state-is n) ∙ name_in x.states n (name_no n)
      ∙ ap (take (name_length_in state_size 0 x.states n))
      (sym (drop-drop (names_length n 0 state_size x.states) (names_length (length x.facilities / facility_size) 2 facility_size x.facilities + names_length (length x.operations / operation_size) 0 operation_size x.operations) x.names))

  state-read : (n : ℕ) (y : S.StateRecord) → StateRead x.states n y → state_meant (state_at (noted_description x q) n).name y ≡ state_at (noted_description x q) n
  state-read n y r =
      let m = r.meaning (name_no n) in
      let k : (state_at (noted_description x q) n).name ≡ name_no n = ap (λ (z : State). z.name) (state-is n ∙ sym m) in
      ap (λ (z : List ℕ). state_meant z y) k ∙ m ∙ sym (state-is n)

  body-read : (n : ℕ) (o : O.OperationRecord) → OperationRead x.operations n o → run_meant o.body ≡ (operation_at (noted_description x q) n).body
  body-read n o r =
      ap (λ (z : Operation). z.body)
      (r.meaning (named (operation_part x.facilities (length x.facilities / facility_size) x.operations n) x.names) ∙ sym (operation-noted x q n ∙ operation-described x n))

  operations-noted : length (noted_description x q).operations ≡ length x.operations / operation_size
  unfolding noted_description
  operations-noted = operations-count x

  states-noted : length (noted_description x q).states ≡ length x.states / state_size
  unfolding noted_description
  states-noted = states-count x

  module _ (memo : List ℕ) (r : Shown x.facilities x.expressions q.facilities q.expressions memo (length x.facilities / facility_size) (noted_description x q) (places_in q) (terminal_below (noted_description x q) (places_in q) (length x.facilities / facility_size))) where
    pub acting-noted : Acting x.facilities x.expressions q.facilities q.expressions memo x.actions q.actions x.states state_names x.operations (noted_description x q) (places_in q)
    acting-noted = record {
      declared = declared-noted;
      shown = r;
      action = action-noted x q;
      place = action-place q;
      label = state-label;
      body = body-read;
    }

    pub stated-noted : Stated x.facilities x.expressions q.facilities q.expressions memo x.actions q.actions x.states state_names x.operations q.states (noted_description x q) (places_in q)
    stated-noted = record {
      acting = acting-noted;
      operations = operations-noted;
      count = states-noted;
      state = state-read;
      spot = state-places q;
    }

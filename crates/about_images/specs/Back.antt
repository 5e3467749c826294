-- A description whose records are in range is read back from the sections that are written of it.
use Rattle.std.specs.Prelude.{Bool, true, false, ◌≡◌, take}
use Rattle.std.proofs.Common.{true≢false, sym, ◌∙◌, mod-lt, eqb-true}
use mathlib.Core.List.{List, [], ◌++◌, append-nil}
use Rattle.std.proofs.Math.Option.{none}
use Rattle.std.proofs.Math.Path.{refl, ap}
use Prim.Native.Nat.{ℕ, zero, suc, ◌+◌, ◌*◌, ◌/◌, ◌%◌, ◌^◌, ◌<◌, ◌≤◌}
use Rattle.std.proofs.Math.Nat.{mod-eq_of_lt}
use native.Mathlib.Omega.{arith}
use Rattle.std.proofs.Math.ListN.{get_or, length}
use Rattle.std.proofs.Math.Seq.{drop_at, drop-drop, ext_get_or, take-length}
use Rattle.language.specs.Decode.{described, names_length, node_of, number_at}
use Rattle.language.specs.Description as D
use Rattle.language.specs.Description.{Action, Description, Facility, Node, Operation, State, action_at, digit_length, facility_at, further_digits, no_facility, no_run, node_at, operation_at, state_at}
use Rattle.language.specs.Encode.{action_bytes, action_size, concat, encode, facility_record, facility_records, facility_size, name_bytes, node_bytes, node_size, operation_record, operation_size, sections_of, state_record, state_size}
use Rattle.language.specs.Layout.{place_in}
use Rattle.language.specs.Order.{digits_stand, is_digit48}
use Rattle.image_records.proofs.ActionBack as A
use Rattle.image_records.proofs.ActionBack.{action-back}
use Rattle.image_records.proofs.ActionLaws.{action-length}
use Rattle.image_records.proofs.DigitsWritten.{Above, constant-above}
use Rattle.image_records.proofs.NodeBack.{Fits, Half, node-back}
use Rattle.image_records.proofs.NumberLaws.{number-back}
use Rattle.image_records.proofs.WrittenNodes.{node-length}
use Rattle.image_sections.proofs.DeclarationBack.{FacilityFits, ValueFits, facility-back, operation-back, state-back}
use Rattle.image_sections.proofs.DeclarationLaws.{name-first, name-whole}
use Rattle.image_sections.proofs.DescribedLaws.{action-described, actions-count, expressions-count, facilities-count, facility-described, node-described, operation-described, operations-count, state-described, states-count}
use Rattle.image_sections.proofs.WrittenDeclarations.{facility-length, operation-length, state-length}
use Rattle.image_sections.specs.Declarations.{facility_in, operation_in, state_in}
use Rattle.image_sections.specs.Names.{facility_part, named, operation_part, state_part}
use Rattle.about_images.specs.Names.{lengths-say, name-cut, names-length, names_of}
use Rattle.about_images.specs.Rows.{facilities-at, facilities-length, row_at, row-length}
use Rattle.about_images.specs.Running.{stands}
use Rattle.language.specs.Tests.{both}

-- ---- In range.

-- Record n is the node x: its numbers have room; a constant fits its length, and its further digits stand before it.
abbrev pub NodeInRange : Description → ℕ → Node → Type 0
NodeInRange d n (D.constant v) = (1 ≤ v.length) × (v.length ≤ 256) × (v.number < 2 ^ v.length)
    × (digits_stand d (further_digits v.length) n (v.number / 2 ^ 48) ≡ true)
NodeInRange d n (D.more m) = m < 2 ^ 48
NodeInRange d n (D.whole f) = f < 256
NodeInRange d n (D.one f e) = (f < 256) × Half e
NodeInRange d n (D.part f b) = (f < 256) × Half b.first × Half b.last
NodeInRange d n (D.two f e g) = (f < 256) × Half e × Half g
NodeInRange d n (D.word_part f e b) = (f < 256) × Half e × Half b.first × Half b.last
NodeInRange d n (D.binary k a b) = (k < 64) × Half a × Half b
NodeInRange d n (D.prefix k a) = (k < 64) × Half a
NodeInRange d n (D.cut k a c) = (k < 64) × Half a × Half c
NodeInRange d n (D.first_arm e) = Half e
NodeInRange d n (D.next_arm a e) = Half a × Half e
NodeInRange d n (D.choice e a m) = Half e × Half a × Half m
NodeInRange d n D.Node.broken = Unit {0}

pub record FacilityInRange (f : Facility) : Type 0 where
  pub name : length f.name < 256
  pub fits : FacilityFits f

pub record OperationInRange (o : Operation) : Type 0 where
  pub name : length o.name < 256
  pub first : Half o.body.first
  pub count : Half o.body.count

pub record StateInRange (s : State) : Type 0 where
  pub name : length s.name < 256
  pub value : ValueFits s.value
  pub first : Half s.actions.first
  pub count : Half s.actions.count

pub record InRange (d : Description) : Type 0 where
  pub facilities : (n : ℕ) → n < length d.facilities → FacilityInRange (facility_at d n)
  pub operations : (n : ℕ) → n < length d.operations → OperationInRange (operation_at d n)
  pub expressions : (n : ℕ) → n < length d.expressions → NodeInRange d n (node_at d n)
  pub actions : (n : ℕ) → n < length d.actions → A.Fits (action_at d n)
  pub states : (n : ℕ) → n < length d.states → StateInRange (state_at d n)
  pub whole : length (encode d) < 2 ^ 32

-- ---- Digits.

both_left : (a b : Bool) → both a b ≡ true → a ≡ true
both_left true b e = refl
both_left false b e = absurd (true≢false (sym e))

both_right : (a b : Bool) → both a b ≡ true → b ≡ true
both_right true b e = e
both_right false b e = absurd (true≢false (sym e))

pub is_digit : (d : Description) (x : Node) (m : ℕ) → is_digit48 d x m ≡ true → x ≡ D.more m
is_digit d (D.constant v) m e = absurd (true≢false (sym e))
is_digit d (D.more n) m e = ap D.more (eqb-true n m e)
is_digit d (D.whole f) m e = absurd (true≢false (sym e))
is_digit d (D.one f a) m e = absurd (true≢false (sym e))
is_digit d (D.part f b) m e = absurd (true≢false (sym e))
is_digit d (D.two f a g) m e = absurd (true≢false (sym e))
is_digit d (D.word_part f a b) m e = absurd (true≢false (sym e))
is_digit d (D.binary k a b) m e = absurd (true≢false (sym e))
is_digit d (D.prefix k a) m e = absurd (true≢false (sym e))
is_digit d (D.cut k a c) m e = absurd (true≢false (sym e))
is_digit d (D.first_arm a) m e = absurd (true≢false (sym e))
is_digit d (D.next_arm a b) m e = absurd (true≢false (sym e))
is_digit d (D.choice a b n) m e = absurd (true≢false (sym e))
is_digit d D.Node.broken m e = absurd (true≢false (sym e))

-- ---- Expressions.

module _ (d : Description) where
  abbrev nodes_of : List ℕ
  nodes_of = concat node_bytes d.expressions

  node-stands : (n : ℕ) → n < length d.expressions → (i : ℕ) → i < node_size → get_or nodes_of (node_size * n + i) 0 ≡ get_or (node_bytes (node_at d n)) i 0
  unfolding node_at
  node-stands n h = stands nodes_of (node_size * n) node_size (row_at node_bytes node_size node-length d.expressions n D.Node.broken h)

  -- A further digit as it is written.
  digit-written : (n m : ℕ) → n < length d.expressions → m < 2 ^ 48 → node_at d n ≡ D.more m
      → (get_or nodes_of (node_size * n) 0 ≡ 2) × (number_at 6 (node_size * n + 2) nodes_of ≡ m)
  unfolding node_bytes
  digit-written n m h g e =
      let f : (i : ℕ) → i < 8 → get_or nodes_of (node_size * n + i) 0 ≡ get_or (node_bytes (D.more m)) i 0 = λ i l. node-stands n h i l ∙ ap (λ (x : Node). get_or (node_bytes x) i 0) e in
      let z : node_size * n + 0 ≡ node_size * n = omega arith in (
        rw z at (f 0 (omega arith)),
        number-back 6 (node_size * n + 2) m nodes_of g (λ i l. let y : node_size * n + 2 + i ≡ node_size * n + suc (suc i) = omega arith in rw y (f (suc (suc i)) (omega arith))),
      )

  digits_above : (k n x : ℕ) → n ≤ length d.expressions → digits_stand d k n x ≡ true → Above k n x nodes_of
  unfolding digits_stand digit_length
  digits_above zero n x h e = tt
  digits_above (suc k) zero x h e = absurd (true≢false (sym e))
  digits_above (suc k) (suc n) x h e =
      let p = is_digit d (node_at d n) (x % 2 ^ 48) (both_left (is_digit48 d (node_at d n) (x % 2 ^ 48)) (digits_stand d k n (x / 2 ^ 48)) e) in
      let w = digit-written n (x % 2 ^ 48) (omega arith) (mod-lt x (omega arith)) p in
      (w.0, w.1, digits_above k n (x / 2 ^ 48) (omega arith) (both_right (is_digit48 d (node_at d n) (x % 2 ^ 48)) (digits_stand d k n (x / 2 ^ 48)) e))

  node-fits : (n : ℕ) → n ≤ length d.expressions → (x : Node) → NodeInRange d n x → Fits nodes_of n x
  node-fits n h (D.constant v) r =
      constant-above nodes_of n v r.0 r.1 r.2 (digits_above (further_digits v.length) n (v.number / 2 ^ 48) h r.3)
  node-fits n h (D.more m) r = r
  node-fits n h (D.whole f) r = r
  node-fits n h (D.one f a) r = r
  node-fits n h (D.part f b) r = r
  node-fits n h (D.two f a g) r = r
  node-fits n h (D.word_part f a b) r = r
  node-fits n h (D.binary k a b) r = r
  node-fits n h (D.prefix k a) r = r
  node-fits n h (D.cut k a c) r = r
  node-fits n h (D.first_arm a) r = r
  node-fits n h (D.next_arm a b) r = r
  node-fits n h (D.choice a b m) r = r
  node-fits n h D.Node.broken r = tt

  nodes-long : length nodes_of ≡ node_size * length d.expressions
  nodes-long = row-length node_bytes node_size node-length d.expressions

  node-again : (n : ℕ) → n < length d.expressions → NodeInRange d n (node_at d n) → node_of nodes_of n ≡ node_at d n
  node-again n h r =
      let l = nodes-long in
      node-back nodes_of n (omega arith) (node_at d n) (node-fits n (omega arith) (node_at d n) r) (node-stands n h)

-- ---- The whole.

abbrev made : List Facility → List Operation → List Node → List Action → List State → Description
made f o e a s = record { facilities = f; operations = o; expressions = e; actions = a; states = s }

made-same : {f f' : List Facility} {o o' : List Operation} {e e' : List Node} {a a' : List Action} {s s' : List State}
    → f ≡ f' → o ≡ o' → e ≡ e' → a ≡ a' → s ≡ s' → made f o e a s ≡ made f' o' e' a' s'
made-same p q u v w = rw (p, q, u, v, w)

module _ (d : Description) (r : InRange d) where
  expressions-back : (described (sections_of d)).expressions ≡ d.expressions
  unfolding sections_of node_at
  expressions-back =
      let l = nodes-long d in
      let k : length (described (sections_of d)).expressions ≡ length d.expressions = expressions-count (sections_of d) ∙ omega arith in
      ext_get_or D.Node.broken _ _ k (λ n h. node-described (sections_of d) n ∙ node-again d n (omega arith) (r.expressions n (omega arith)))

  actions-back : (described (sections_of d)).actions ≡ d.actions
  unfolding sections_of action_at
  actions-back =
      let s = concat action_bytes d.actions in
      let l : length s ≡ action_size * length d.actions = row-length action_bytes action_size action-length d.actions in
      let k : length (described (sections_of d)).actions ≡ length d.actions = actions-count (sections_of d) ∙ omega arith in
      ext_get_or D.Action.broken _ _ k
      (λ n h. action-described (sections_of d) n
      ∙ action-back s n (omega arith) (action_at d n) (r.actions n (omega arith)) (stands s (action_size * n) action_size (row_at action_bytes action_size action-length d.actions n D.Action.broken (omega arith))))

  -- ---- Facilities.

  abbrev facilities_of : List ℕ
  facilities_of = facility_records 0 d.facilities

  pub facility-stands : (n : ℕ) → n < length d.facilities → (i : ℕ) → i < facility_size
      → get_or facilities_of (facility_size * n + i) 0 ≡ get_or (facility_record (place_in d.facilities n) (facility_at d n)) i 0
  unfolding facility_at
  facility-stands n h = stands facilities_of (facility_size * n) facility_size (facilities-at d.facilities n h)

  pub facility-byte : (n : ℕ) → n < length d.facilities → get_or facilities_of (facility_size * n + 2) 0 ≡ length (facility_at d n).name
  unfolding facility_record
  facility-byte n h = facility-stands n h 2 (omega arith) ∙ mod-eq_of_lt (r.facilities n h).name

  pub facility-names : (n : ℕ) → n ≤ length d.facilities → names_length n 2 facility_size facilities_of ≡ names_of (λ f. f.name) (take n d.facilities)
  unfolding facility_at
  facility-names n h =
      lengths-say (λ f. length f.name) d.facilities facilities_of 2 facility_size n no_facility h
      (λ i g. let e : 2 + facility_size * i ≡ facility_size * i + 2 = omega arith in rw e (facility-byte i (omega arith)))

  facility-name : (n : ℕ) → n < length d.facilities → named (facility_part facilities_of n) (name_bytes d) ≡ (facility_at d n).name
  unfolding facility_part name_bytes facility_at
  facility-name n h =
      let l = facilities-length d.facilities in
      rw (name-whole facility_size 2 facilities_of n (omega arith), facility-byte n h, facility-names n (omega arith))
      (name-cut (λ f. f.name) d.facilities n no_facility (concat (λ o. o.name) d.operations ++ concat (λ s. s.name) d.states) h)

  facilities-back : (described (sections_of d)).facilities ≡ d.facilities
  unfolding sections_of facility_at
  facilities-back =
      let l = facilities-length d.facilities in
      let k : length (described (sections_of d)).facilities ≡ length d.facilities = facilities-count (sections_of d) ∙ omega arith in
      ext_get_or no_facility _ _ k
      (λ n h. facility-described (sections_of d) n ∙ ap (facility_in facilities_of n) (facility-name n (omega arith))
      ∙ facility-back facilities_of n (place_in d.facilities n) (facility_at d n) (omega arith) (r.facilities n (omega arith)).fits
      (λ i g. facility-stands n (omega arith) i (omega (arith, facility-length (place_in d.facilities n) (facility_at d n)))))

  pub all-facilities : names_length (length facilities_of / facility_size) 2 facility_size facilities_of ≡ length (concat (λ f. f.name) d.facilities)
  all-facilities =
      let l = facilities-length d.facilities in
      let e : length facilities_of / facility_size ≡ length d.facilities = omega arith in
      rw e (facility-names (length d.facilities) (omega arith) ∙ ap (names_of (λ f. f.name)) (take-length d.facilities) ∙ sym (names-length (λ f. f.name) d.facilities))

  -- ---- Operations.

  abbrev no_operation : Operation
  no_operation = record { name = []; body = no_run }

  abbrev operations_of : List ℕ
  operations_of = concat operation_record d.operations

  operation-stands : (n : ℕ) → n < length d.operations → (i : ℕ) → i < operation_size → get_or operations_of (operation_size * n + i) 0 ≡ get_or (operation_record (operation_at d n)) i 0
  unfolding operation_at
  operation-stands n h = stands operations_of (operation_size * n) operation_size (row_at operation_record operation_size operation-length d.operations n no_operation h)

  pub operation-byte : (n : ℕ) → n < length d.operations → get_or operations_of (operation_size * n) 0 ≡ length (operation_at d n).name
  unfolding operation_record
  operation-byte n h =
      let e : operation_size * n + 0 ≡ operation_size * n = omega arith in
      rw e at (operation-stands n h 0 (omega arith)) ∙ mod-eq_of_lt (r.operations n h).name

  pub operation-names : (n : ℕ) → n ≤ length d.operations → names_length n 0 operation_size operations_of ≡ names_of (λ o. o.name) (take n d.operations)
  unfolding operation_at
  operation-names n h =
      lengths-say (λ o. length o.name) d.operations operations_of 0 operation_size n no_operation h
      (λ i g. let e : 0 + operation_size * i ≡ operation_size * i = omega arith in rw e (operation-byte i (omega arith)))

  operation-name : (n : ℕ) → n < length d.operations
      → named (operation_part facilities_of (length facilities_of / facility_size) operations_of n) (name_bytes d) ≡ (operation_at d n).name
  unfolding operation_part name_bytes operation_at
  operation-name n h =
      let l = row-length operation_record operation_size operation-length d.operations in
      let fs = concat (λ f. f.name) d.facilities in
      let ss = concat (λ s. s.name) d.states in
      rw (
        name-first 5 operations_of n (omega arith),
        operation-byte n h,
        operation-names n (omega arith),
        all-facilities,
        ← drop-drop (names_of (λ o. o.name) (take n d.operations)) (length fs) (fs ++ (concat (λ o. o.name) d.operations ++ ss)),
        drop_at fs (concat (λ o. o.name) d.operations ++ ss) (length fs) refl,
      )
      (name-cut (λ o. o.name) d.operations n no_operation ss h)

  operations-back : (described (sections_of d)).operations ≡ d.operations
  unfolding sections_of operation_at
  operations-back =
      let l = row-length operation_record operation_size operation-length d.operations in
      let k : length (described (sections_of d)).operations ≡ length d.operations = operations-count (sections_of d) ∙ omega arith in
      ext_get_or no_operation _ _ k
      (λ n h. let g : n < length d.operations = omega arith in
      operation-described (sections_of d) n ∙ ap (operation_in operations_of n) (operation-name n g)
      ∙ operation-back operations_of n (operation_at d n) (omega arith) (r.operations n g).first (r.operations n g).count
      (λ i q. operation-stands n g i (omega (arith, operation-length (operation_at d n)))))

  pub all-operations : names_length (length operations_of / operation_size) 0 operation_size operations_of ≡ length (concat (λ o. o.name) d.operations)
  all-operations =
      let l = row-length operation_record operation_size operation-length d.operations in
      let e : length operations_of / operation_size ≡ length d.operations = omega arith in
      rw e (operation-names (length d.operations) (omega arith) ∙ ap (names_of (λ o. o.name)) (take-length d.operations) ∙ sym (names-length (λ o. o.name) d.operations))

  -- ---- States.

  abbrev no_state : State
  no_state = record { name = []; value = none; actions = no_run }

  abbrev states_of : List ℕ
  states_of = concat state_record d.states

  state-stands : (n : ℕ) → n < length d.states → (i : ℕ) → i < state_size → get_or states_of (state_size * n + i) 0 ≡ get_or (state_record (state_at d n)) i 0
  unfolding state_at
  state-stands n h = stands states_of (state_size * n) state_size (row_at state_record state_size state-length d.states n no_state h)

  pub state-byte : (n : ℕ) → n < length d.states → get_or states_of (state_size * n) 0 ≡ length (state_at d n).name
  unfolding state_record
  state-byte n h =
      let e : state_size * n + 0 ≡ state_size * n = omega arith in
      rw e at (state-stands n h 0 (omega arith)) ∙ mod-eq_of_lt (r.states n h).name

  pub state-names : (n : ℕ) → n ≤ length d.states → names_length n 0 state_size states_of ≡ names_of (λ s. s.name) (take n d.states)
  unfolding state_at
  state-names n h =
      lengths-say (λ s. length s.name) d.states states_of 0 state_size n no_state h
      (λ i g. let e : 0 + state_size * i ≡ state_size * i = omega arith in rw e (state-byte i (omega arith)))

  state-name : (n : ℕ) → n < length d.states
      → named (state_part facilities_of (length facilities_of / facility_size) operations_of (length operations_of / operation_size) states_of n) (name_bytes d) ≡ (state_at d n).name
  unfolding state_part name_bytes state_at
  state-name n h =
      let l = row-length state_record state_size state-length d.states in
      let fs = concat (λ f. f.name) d.facilities in
      let os = concat (λ o. o.name) d.operations in
      let ss = concat (λ s. s.name) d.states in
      rw (
        name-first 7 states_of n (omega arith),
        state-byte n h,
        state-names n (omega arith),
        all-facilities,
        all-operations,
        ← drop-drop (names_of (λ s. s.name) (take n d.states)) (length fs + length os) (fs ++ (os ++ ss)),
        ← drop-drop (length os) (length fs) (fs ++ (os ++ ss)),
        drop_at fs (os ++ ss) (length fs) refl,
        drop_at os ss (length os) refl,
        ← append-nil ss,
      )
      (name-cut (λ s. s.name) d.states n no_state [] h)

  states-back : (described (sections_of d)).states ≡ d.states
  unfolding sections_of state_at
  states-back =
      let l = row-length state_record state_size state-length d.states in
      let k : length (described (sections_of d)).states ≡ length d.states = states-count (sections_of d) ∙ omega arith in
      ext_get_or no_state _ _ k
      (λ n h. let g : n < length d.states = omega arith in
      state-described (sections_of d) n ∙ ap (state_in states_of n) (state-name n g)
      ∙ state-back states_of n (state_at d n) (omega arith) (r.states n g).value (r.states n g).first (r.states n g).count
      (λ i q. state-stands n g i (omega (arith, state-length (state_at d n)))))

  -- What was written is read back.
  pub sections-back : described (sections_of d) ≡ d
  sections-back = made-same facilities-back operations-back expressions-back actions-back states-back

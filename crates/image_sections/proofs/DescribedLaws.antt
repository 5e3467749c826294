-- What sections describe, record by record: the link from a whole description to the functions that read one record.
use mathlib.Core.Bool.{Bool, true, false}
use mathlib.Core.List.{List, []}
use mathlib.Core.Option.{none}
use mathlib.Core.Path.{◌≡◌, refl, sym, ap, ◌∙◌}
use Prim.Native.Nat.{ℕ, zero, suc, ◌+◌, ◌*◌, ◌/◌, ◌<◌, ◌≤◌}
use native.Mathlib.Omega.{arith}
use borrow.Author.Tests.{ltb-false, ltb-true}
use lib.Dec.{ltb}
use lib.ListN.{drop, get_or, length, take}
use lib.Seq.{drop-drop}
use Rattle.language.specs.Decode.{action_of, described, facilities_at, facility_of, half_at, names_length, node_of, operations_at, run_at, states_at, up_to, value_of}
use Rattle.language.specs.Description as D
use Rattle.language.specs.Description.{action_at, facility_at, no_facility, no_run, node_at, operation_at, state_at}
use Rattle.language.specs.Encode.{Sections, action_size, facility_size, node_size, operation_size, state_size}
use Rattle.image_records.proofs.ActionLaws.{action-past}
use Rattle.image_records.proofs.NodeLaws.{node-past}
use Rattle.image_sections.proofs.DeclarationLaws.{facility-past, facility-whole, name-first, name-past, name-whole, operation-past, operation-whole, state-past, state-whole}
use Rattle.image_sections.specs.Declarations.{facility_in, name_length_in, operation_in, state_in}
use Rattle.image_sections.specs.Names.{facility_part, named, operation_part, state_part}

-- ---- Expressions and actions.

module _ {A : Type 0} (f : ℕ → A) (d : A) where
  up-to-at : (i k n : ℕ) → n < k → get_or (up_to f i k) n d ≡ f (i + n)
  unfolding up_to
  up-to-at i zero n h = absurd (omega arith)
  up-to-at i (suc k) zero h = let e : i + 0 ≡ i = omega arith in rw e
  up-to-at i (suc k) (suc n) h = let e : i + suc n ≡ suc i + n = omega arith in rw e (up-to-at (suc i) k n (omega arith))

  up-to-past : (i k n : ℕ) → k ≤ n → get_or (up_to f i k) n d ≡ d
  unfolding up_to
  up-to-past i zero n h = refl
  up-to-past i (suc k) zero h = absurd (omega arith)
  up-to-past i (suc k) (suc n) h = up-to-past (suc i) k n (omega arith)

  -- The records from the first on, with d for what is past them.
  up-to : (k n : ℕ) → (k ≤ n → f n ≡ d) → get_or (up_to f 0 k) n d ≡ f n
  up-to k n h = by-test (ltb n k) refl
    where
      by-test : (b : Bool) → ltb n k ≡ b → get_or (up_to f 0 k) n d ≡ f n
      by-test true t = let e : 0 + n ≡ n = omega arith in up-to-at 0 k n (ltb-true n k t) ∙ ap f e
      by-test false t = let g : k ≤ n = ltb-false n k t in up-to-past 0 k n g ∙ sym (h g)

pub node-described : (x : Sections) (n : ℕ) → node_at (described x) n ≡ node_of x.expressions n
unfolding described node_at
node-described x n = up-to (node_of x.expressions) D.Node.broken (length x.expressions / node_size) n (λ h. node-past x.expressions n h)

pub action-described : (x : Sections) (n : ℕ) → action_at (described x) n ≡ action_of x.actions n
unfolding described action_at
action-described x n = up-to (action_of x.actions) D.Action.broken (length x.actions / action_size) n (λ h. action-past x.actions n h)

-- ---- Facilities.

module _ (s : List ℕ) where
  facility-listed : (k at n : ℕ) (names : List ℕ) → n < k
      → get_or (facilities_at k at s names) n no_facility
      ≡ facility_of (at + facility_size * n) s (take (get_or s (at + facility_size * n + 2) 0) (drop (names_length n (at + 2) facility_size s) names))
  unfolding facilities_at names_length
  facility-listed zero at n names h = absurd (omega arith)
  facility-listed (suc k) at zero names h = let e : at + facility_size * 0 ≡ at = omega arith in rw e
  facility-listed (suc k) at (suc n) names h =
      let e : at + facility_size * suc n ≡ at + facility_size + facility_size * n = omega arith in
      let g : at + 2 + facility_size ≡ at + facility_size + 2 = omega arith in
      rw (e, g, ← drop-drop (names_length n (at + facility_size + 2) facility_size s) (get_or s (at + 2) 0) names) (facility-listed k (at + facility_size) n (drop (get_or s (at + 2) 0) names) (omega arith))

  facility-unlisted : (k at n : ℕ) (names : List ℕ) → k ≤ n → get_or (facilities_at k at s names) n no_facility ≡ no_facility
  unfolding facilities_at
  facility-unlisted zero at n names h = refl
  facility-unlisted (suc k) at zero names h = absurd (omega arith)
  facility-unlisted (suc k) at (suc n) names h = facility-unlisted k (at + facility_size) n (drop (get_or s (at + 2) 0) names) (omega arith)

  facility-here : (names : List ℕ) (n : ℕ)
      → get_or (facilities_at (length s / facility_size) 0 s names) n no_facility ≡ facility_in s n (take (name_length_in facility_size 2 s n) (drop (names_length n 2 facility_size s) names))
  facility-here names n = by-test (ltb n (length s / facility_size)) refl
    where
      by-test : (b : Bool) → ltb n (length s / facility_size) ≡ b
          → get_or (facilities_at (length s / facility_size) 0 s names) n no_facility ≡ facility_in s n (take (name_length_in facility_size 2 s n) (drop (names_length n 2 facility_size s) names))
      by-test true t =
          let h : n < length s / facility_size = ltb-true _ _ t in
          let e : 0 + facility_size * n ≡ facility_size * n = omega arith in
          facility-listed (length s / facility_size) 0 n names h
          ∙ rw (e, name-whole facility_size 2 s n (omega arith)) (sym (facility-whole s n (take (get_or s (facility_size * n + 2) 0) (drop (names_length n 2 facility_size s) names)) h))
      by-test false t =
          let h : length s / facility_size ≤ n = ltb-false _ _ t in
          facility-unlisted (length s / facility_size) 0 n names h ∙ rw (name-past 13 2 s n (omega arith)) (sym (facility-past s n [] h))

pub facility-described : (x : Sections) (n : ℕ)
    → facility_at (described x) n ≡ facility_in x.facilities n (named (facility_part x.facilities n) x.names)
unfolding described facility_at facility_part
facility-described x n = facility-here x.facilities x.names n

-- ---- Operations.

module _ (s : List ℕ) where
  operation-listed : (k at n : ℕ) (names : List ℕ) → n < k
      → get_or (operations_at k at s names) n (record { name = []; body = no_run })
      ≡ record { name = take (get_or s (at + operation_size * n) 0) (drop (names_length n at 5 s) names); body = run_at (at + operation_size * n + 1) s }
  unfolding operations_at names_length
  operation-listed zero at n names h = absurd (omega arith)
  operation-listed (suc k) at zero names h = let e : at + operation_size * 0 ≡ at = omega arith in rw e
  operation-listed (suc k) at (suc n) names h =
      let e : at + operation_size * suc n ≡ at + operation_size + operation_size * n = omega arith in
      rw (e, ← drop-drop (names_length n (at + operation_size) operation_size s) (get_or s at 0) names) (operation-listed k (at + operation_size) n (drop (get_or s at 0) names) (omega arith))

  operation-unlisted : (k at n : ℕ) (names : List ℕ) → k ≤ n
      → get_or (operations_at k at s names) n (record { name = []; body = no_run }) ≡ record { name = []; body = no_run }
  unfolding operations_at
  operation-unlisted zero at n names h = refl
  operation-unlisted (suc k) at zero names h = absurd (omega arith)
  operation-unlisted (suc k) at (suc n) names h = operation-unlisted k (at + operation_size) n (drop (get_or s at 0) names) (omega arith)

  operation-here : (names : List ℕ) (n : ℕ)
      → get_or (operations_at (length s / operation_size) 0 s names) n (record { name = []; body = no_run })
      ≡ operation_in s n (take (name_length_in operation_size 0 s n) (drop (names_length n 0 operation_size s) names))
  operation-here names n = by-test (ltb n (length s / operation_size)) refl
    where
      by-test : (b : Bool) → ltb n (length s / operation_size) ≡ b
          → get_or (operations_at (length s / operation_size) 0 s names) n (record { name = []; body = no_run })
          ≡ operation_in s n (take (name_length_in operation_size 0 s n) (drop (names_length n 0 operation_size s) names))
      by-test true t =
          let h : n < length s / operation_size = ltb-true _ _ t in
          let e : 0 + operation_size * n ≡ operation_size * n = omega arith in
          operation-listed (length s / operation_size) 0 n names h
          ∙ rw (e, name-first 5 s n (omega arith)) (sym (operation-whole s n (take (get_or s (operation_size * n) 0) (drop (names_length n 0 operation_size s) names)) h))
      by-test false t =
          let h : length s / operation_size ≤ n = ltb-false _ _ t in
          operation-unlisted (length s / operation_size) 0 n names h ∙ rw (name-past 5 0 s n (omega arith)) (sym (operation-past s n [] h))

pub operation-described : (x : Sections) (n : ℕ)
    → operation_at (described x) n
    ≡ operation_in x.operations n (named (operation_part x.facilities (length x.facilities / facility_size) x.operations n) x.names)
unfolding described operation_at operation_part
operation-described x n =
    operation-here x.operations (drop (names_length (length x.facilities / facility_size) 2 facility_size x.facilities) x.names) n
    ∙ rw (drop-drop (names_length n 0 operation_size x.operations) (names_length (length x.facilities / facility_size) 2 facility_size x.facilities) x.names)

-- ---- States.

module _ (s : List ℕ) where
  state-listed : (k at n : ℕ) (names : List ℕ) → n < k
      → get_or (states_at k at s names) n (record { name = []; value = none; actions = no_run })
      ≡ record {
        name = take (get_or s (at + state_size * n) 0) (drop (names_length n at 7 s) names);
        value = value_of (half_at (at + state_size * n + 1) s);
        actions = run_at (at + state_size * n + 3) s;
      }
  unfolding states_at names_length
  state-listed zero at n names h = absurd (omega arith)
  state-listed (suc k) at zero names h = let e : at + state_size * 0 ≡ at = omega arith in rw e
  state-listed (suc k) at (suc n) names h =
      let e : at + state_size * suc n ≡ at + state_size + state_size * n = omega arith in
      rw (e, ← drop-drop (names_length n (at + state_size) state_size s) (get_or s at 0) names) (state-listed k (at + state_size) n (drop (get_or s at 0) names) (omega arith))

  state-unlisted : (k at n : ℕ) (names : List ℕ) → k ≤ n
      → get_or (states_at k at s names) n (record { name = []; value = none; actions = no_run }) ≡ record { name = []; value = none; actions = no_run }
  unfolding states_at
  state-unlisted zero at n names h = refl
  state-unlisted (suc k) at zero names h = absurd (omega arith)
  state-unlisted (suc k) at (suc n) names h = state-unlisted k (at + state_size) n (drop (get_or s at 0) names) (omega arith)

  state-here : (names : List ℕ) (n : ℕ)
      → get_or (states_at (length s / state_size) 0 s names) n (record { name = []; value = none; actions = no_run })
      ≡ state_in s n (take (name_length_in state_size 0 s n) (drop (names_length n 0 state_size s) names))
  state-here names n = by-test (ltb n (length s / state_size)) refl
    where
      by-test : (b : Bool) → ltb n (length s / state_size) ≡ b
          → get_or (states_at (length s / state_size) 0 s names) n (record { name = []; value = none; actions = no_run })
          ≡ state_in s n (take (name_length_in state_size 0 s n) (drop (names_length n 0 state_size s) names))
      by-test true t =
          let h : n < length s / state_size = ltb-true _ _ t in
          let e : 0 + state_size * n ≡ state_size * n = omega arith in
          state-listed (length s / state_size) 0 n names h
          ∙ rw (e, name-first 7 s n (omega arith)) (sym (state-whole s n (take (get_or s (state_size * n) 0) (drop (names_length n 0 state_size s) names)) h))
      by-test false t =
          let h : length s / state_size ≤ n = ltb-false _ _ t in
          state-unlisted (length s / state_size) 0 n names h ∙ rw (name-past 7 0 s n (omega arith)) (sym (state-past s n [] h))

pub state-described : (x : Sections) (n : ℕ)
    → state_at (described x) n
    ≡ state_in x.states n
    (named (state_part x.facilities (length x.facilities / facility_size) x.operations (length x.operations / operation_size) x.states n) x.names)
unfolding described state_at state_part
state-described x n =
    let f : ℕ = names_length (length x.facilities / facility_size) 2 facility_size x.facilities in
    let o : ℕ = names_length (length x.operations / operation_size) 0 operation_size x.operations in
    state-here x.states (drop o (drop f x.names)) n
    ∙ rw (drop-drop o f x.names, drop-drop (names_length n 0 state_size x.states) (f + o) x.names)

-- ---- How many records there are.

facilities-length : (k at : ℕ) (s names : List ℕ) → length (facilities_at k at s names) ≡ k
unfolding facilities_at
facilities-length zero at s names = refl
facilities-length (suc k) at s names = ap suc (facilities-length k (at + facility_size) s (drop (get_or s (at + 2) 0) names))

operations-length : (k at : ℕ) (s names : List ℕ) → length (operations_at k at s names) ≡ k
unfolding operations_at
operations-length zero at s names = refl
operations-length (suc k) at s names = ap suc (operations-length k (at + operation_size) s (drop (get_or s at 0) names))

states-length : (k at : ℕ) (s names : List ℕ) → length (states_at k at s names) ≡ k
unfolding states_at
states-length zero at s names = refl
states-length (suc k) at s names = ap suc (states-length k (at + state_size) s (drop (get_or s at 0) names))

pub up-to-length : {A : Type 0} (f : ℕ → A) (i k : ℕ) → length (up_to f i k) ≡ k
unfolding up_to
up-to-length f i zero = refl
up-to-length f i (suc k) = ap suc (up-to-length f (suc i) k)

module _ (x : Sections) where
  pub facilities-count : length (described x).facilities ≡ length x.facilities / facility_size
  unfolding described
  facilities-count = facilities-length _ 0 x.facilities x.names

  pub operations-count : length (described x).operations ≡ length x.operations / operation_size
  unfolding described
  operations-count = operations-length _ 0 x.operations (drop (names_length (length x.facilities / facility_size) 2 facility_size x.facilities) x.names)

  pub expressions-count : length (described x).expressions ≡ length x.expressions / node_size
  unfolding described
  expressions-count = up-to-length (node_of x.expressions) 0 _

  pub actions-count : length (described x).actions ≡ length x.actions / action_size
  unfolding described
  actions-count = up-to-length (action_of x.actions) 0 _

  pub states-count : length (described x).states ≡ length x.states / state_size
  unfolding described
  states-count = states-length _ 0 x.states _

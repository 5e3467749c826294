-- Sections whose records are right are those that are written of what they describe.
use mathlib.Core.List.{List, []}
use Rattle.std.proofs.Math.Option.{none}
use Rattle.std.specs.Prelude.{◌≡◌, refl, ℕ, zero, suc, ◌+◌, ◌*◌, ◌/◌, ◌%◌, ◌<◌, ◌≤◌, drop, get_or, take}
use Rattle.std.proofs.Common.{sym, ◌∙◌, mul-suc, mul-zero, length-drop, length-take-le, take_all}
use Rattle.std.proofs.Math.Path.{ap, ap₂}
use native.Mathlib.Omega.{arith}
use Rattle.std.proofs.Math.ListN.{length, length-append, length-take}
use Rattle.std.proofs.Math.Seq.{take-add, take-length}
use Rattle.language.specs.Canonical.{total}
use Rattle.language.specs.Decode.{action_of, described, names_length, node_of}
use Rattle.language.specs.Description as D
use Rattle.language.specs.Description.{Facility, Operation, State, action_at, facility_at, no_facility, no_run, node_at, operation_at, state_at}
use Rattle.language.specs.Encode.{Sections, action_bytes, action_size, concat, facility_record, facility_records, facility_size, name_bytes, node_bytes, node_size, operation_record, operation_size, sections_of, state_record, state_size}
use Rattle.language.specs.Layout.{place_in}
use Rattle.image_records.proofs.ActionLaws.{action-length}
use Rattle.image_records.proofs.WrittenNodes.{node-length}
use Rattle.image_sections.proofs.DeclarationBack.{operation-right, state-right}
use Rattle.image_sections.proofs.DeclarationLaws.{name-first, name-whole}
use Rattle.image_sections.proofs.DescribedLaws.{action-described, actions-count, expressions-count, facilities-count, node-described, operation-described, operations-count, state-described, states-count}
use Rattle.image_sections.proofs.WrittenDeclarations.{operation-length, state-length}
use Rattle.image_sections.specs.Declarations.{name_length_in}
use Rattle.image_sections.specs.Names.{facility_part, named, operation_part, state_part}
use Rattle.about_images.specs.Names.{bytes_most, facilities-names, lengths-say, operations-names, states-names}
use Rattle.about_images.specs.Rows.{facilities-are, facilities-at, row_at, row_is}
use Rattle.about_images.specs.Running.{stands}

-- The bytes of a slice.
abbrev pub Bytes : List ℕ → Type 0
Bytes s = (i : ℕ) → get_or s i 0 < 256

-- A name within what the records up to the k-th say.
names-within : (k n at size : ℕ) (s : List ℕ) → n < k → names_length n at size s + get_or s (at + size * n) 0 ≤ names_length k at size s
unfolding names_length
names-within zero n at size s h = absurd (omega arith)
names-within (suc k) zero at size s h = let e : at + size * 0 ≡ at = rw (mul-zero size) (omega arith) in rw e (omega arith)
names-within (suc k) (suc n) at size s h =
    let e : at + size * suc n ≡ at + size + size * n = rw (mul-suc size n) (omega arith) in
    let g = names-within k n (at + size) size s (omega arith) in
    rw e (omega arith)

name-long : (l from : ℕ) (names : List ℕ) → from + l ≤ length names → length (take l (drop from names)) ≡ l
name-long l from names h = length-take-le l (drop from names) (omega (arith, length-drop from names))

-- Records as they are written say no more of names than there is.
facilities-most : (fs : List Facility) → names_length (length fs) 2 facility_size (facility_records 0 fs) ≤ length (concat (λ f. f.name) fs)
unfolding facility_record
facilities-most fs =
    let e : names_length (length fs) 2 facility_size (facility_records 0 fs) ≡ total (λ f. length f.name % 256) (take (length fs) fs) =
    lengths-say (λ f. length f.name % 256) fs (facility_records 0 fs) 2 facility_size (length fs) no_facility (omega arith)
    (λ i h. let k : 2 + facility_size * i ≡ facility_size * i + 2 = omega arith in rw k (stands (facility_records 0 fs) (facility_size * i) facility_size (facilities-at fs i h) 2 (omega arith))) in
    rw (e, take-length fs) (bytes_most (λ f. f.name) fs)

module _ {A : Type 0} (write : A → List ℕ) (name : A → List ℕ) (size : ℕ) (sized : (x : A) → length (write x) ≡ size) (some : 0 < size)
    (first : (x : A) → get_or (write x) 0 0 ≡ length (name x) % 256) (d : A) where
  records-most : (xs : List A) → names_length (length xs) 0 size (concat write xs) ≤ length (concat name xs)
  records-most xs =
      let e : names_length (length xs) 0 size (concat write xs) ≡ total (λ x. length (name x) % 256) (take (length xs) xs) =
      lengths-say (λ x. length (name x) % 256) xs (concat write xs) 0 size (length xs) d (omega arith)
      (λ i h. let k : 0 + size * i ≡ size * i + 0 = omega arith in
      rw k (stands (concat write xs) (size * i) size (row_at write size sized xs i d h) 0 some ∙ first (get_or xs i d))) in
      rw (e, take-length xs) (bytes_most name xs)

operations-most : (os : List Operation) → names_length (length os) 0 operation_size (concat operation_record os) ≤ length (concat (λ o. o.name) os)
unfolding operation_record
operations-most = records-most operation_record (λ o. o.name) 5 operation-length (omega arith) (λ o. refl) (record { name = []; body = no_run })

states-most : (ss : List State) → names_length (length ss) 0 state_size (concat state_record ss) ≤ length (concat (λ s. s.name) ss)
unfolding state_record
states-most = records-most state_record (λ s. s.name) 7 state-length (omega arith) (λ s. refl) (record { name = []; value = none; actions = no_run })

module _ (x : Sections) where
  -- What the records of each section say of names.
  abbrev pub facility_names : ℕ
  facility_names = names_length (length x.facilities / facility_size) 2 facility_size x.facilities

  abbrev pub operation_names : ℕ
  operation_names = names_length (length x.operations / operation_size) 0 operation_size x.operations

  abbrev pub state_names : ℕ
  state_names = names_length (length x.states / state_size) 0 state_size x.states

  abbrev pub all_names : ℕ
  all_names = facility_names + (operation_names + state_names)

  names-taken : name_bytes (described x) ≡ take all_names x.names
  unfolding name_bytes described
  names-taken =
      let f = facility_names in
      let o = operation_names in
      let s = state_names in
      let names = x.names in
      rw (
        facilities-names (length x.facilities / facility_size) 0 x.facilities names,
        operations-names (length x.operations / operation_size) 0 x.operations (drop f names),
        states-names (length x.states / state_size) 0 x.states (drop o (drop f names)),
        take-add f (o + s) names,
        take-add o s (drop f names),
      )

  pub names-again : all_names ≡ length x.names → x.names ≡ name_bytes (described x)
  names-again e = sym (names-taken ∙ take_all all_names x.names (omega arith))

  -- ---- The lengths of names are those that the records have.

  pub facility-long : (n : ℕ) → n < length x.facilities / facility_size → facility_names ≤ length x.names
      → length (named (facility_part x.facilities n) x.names) ≡ name_length_in facility_size 2 x.facilities n
  unfolding facility_part
  facility-long n h g =
      let s = x.facilities in
      let e : facility_size * n + 2 ≡ 2 + facility_size * n = omega arith in
      let w = names-within (length s / facility_size) n 2 facility_size s h in
      rw (name-whole facility_size 2 s n (omega arith), e) (name-long (get_or s (2 + facility_size * n) 0) (names_length n 2 facility_size s) x.names (omega arith))

  pub operation-long : (n : ℕ) → n < length x.operations / operation_size → facility_names + operation_names ≤ length x.names
      → length (named (operation_part x.facilities (length x.facilities / facility_size) x.operations n) x.names) ≡ get_or x.operations (operation_size * n) 0
  unfolding operation_part
  operation-long n h g =
      let s = x.operations in
      let e : operation_size * n ≡ 0 + operation_size * n = omega arith in
      let w = names-within (length s / operation_size) n 0 operation_size s h in
      rw (name-first 5 s n (omega arith), e) (name-long (get_or s (0 + operation_size * n) 0) (facility_names + names_length n 0 operation_size s) x.names (omega arith))

  pub state-long : (n : ℕ) → n < length x.states / state_size → all_names ≤ length x.names
      → length (named (state_part x.facilities (length x.facilities / facility_size) x.operations (length x.operations / operation_size) x.states n) x.names)
      ≡ get_or x.states (state_size * n) 0
  unfolding state_part
  state-long n h g =
      let s = x.states in
      let e : state_size * n ≡ 0 + state_size * n = omega arith in
      let w = names-within (length s / state_size) n 0 state_size s h in
      rw (name-first 7 s n (omega arith), e)
      (name-long (get_or s (0 + state_size * n) 0) (facility_names + operation_names + names_length n 0 state_size s) x.names (omega arith))

  -- ---- Sections whose records are right.

  pub facilities-again : length x.facilities ≡ facility_size * (length x.facilities / facility_size)
      → ((n : ℕ) → n < length x.facilities / facility_size
      → take facility_size (drop (facility_size * n) x.facilities) ≡ facility_record (place_in (described x).facilities n) (facility_at (described x) n))
      → x.facilities ≡ facility_records 0 (described x).facilities
  unfolding facility_at
  facilities-again l f =
      let k = facilities-count x in
      facilities-are (described x).facilities x.facilities (rw k l) (λ n h. f n (omega arith))

  pub operations-again : length x.operations ≡ operation_size * (length x.operations / operation_size) → Bytes x.operations → facility_names + operation_names ≤ length x.names
      → x.operations ≡ concat operation_record (described x).operations
  unfolding operation_at
  operations-again l b g =
      let k = operations-count x in
      let s = x.operations in
      row_is operation_record operation_size operation-length (described x).operations s (record { name = []; body = no_run }) (rw k l)
      (λ n h. let q : n < length s / operation_size = omega arith in
      operation-right s b n (named (operation_part x.facilities (length x.facilities / facility_size) s n) x.names) q (operation-long n q g)
      ∙ ap operation_record (sym (operation-described x n)))

  pub expressions-again : length x.expressions ≡ node_size * (length x.expressions / node_size)
      → ((n : ℕ) → n < length x.expressions / node_size → take node_size (drop (node_size * n) x.expressions) ≡ node_bytes (node_of x.expressions n))
      → x.expressions ≡ concat node_bytes (described x).expressions
  unfolding node_at
  expressions-again l f =
      let k = expressions-count x in
      row_is node_bytes node_size node-length (described x).expressions x.expressions D.Node.broken (rw k l)
      (λ n h. f n (omega arith) ∙ ap node_bytes (sym (node-described x n)))

  pub actions-again : length x.actions ≡ action_size * (length x.actions / action_size)
      → ((n : ℕ) → n < length x.actions / action_size → take action_size (drop (action_size * n) x.actions) ≡ action_bytes (action_of x.actions n))
      → x.actions ≡ concat action_bytes (described x).actions
  unfolding action_at
  actions-again l f =
      let k = actions-count x in
      row_is action_bytes action_size action-length (described x).actions x.actions D.Action.broken (rw k l)
      (λ n h. f n (omega arith) ∙ ap action_bytes (sym (action-described x n)))

  pub states-again : length x.states ≡ state_size * (length x.states / state_size) → Bytes x.states → all_names ≤ length x.names
      → x.states ≡ concat state_record (described x).states
  unfolding state_at
  states-again l b g =
      let k = states-count x in
      let s = x.states in
      row_is state_record state_size state-length (described x).states s (record { name = []; value = none; actions = no_run }) (rw k l)
      (λ n h. let q : n < length s / state_size = omega arith in
      state-right s b n (named (state_part x.facilities (length x.facilities / facility_size) x.operations (length x.operations / operation_size) s n) x.names) q (state-long n q g)
      ∙ ap state_record (sym (state-described x n)))

  -- The records then say as much of names as there is.
  pub names-exact : x ≡ sections_of (described x) → all_names ≡ length x.names
  unfolding sections_of name_bytes
  names-exact e =
      let fs = (described x).facilities in
      let os = (described x).operations in
      let ss = (described x).states in
      let f : facility_names ≡ names_length (length fs) 2 facility_size (facility_records 0 fs) =
      ap₂ (λ (k : ℕ) (s : List ℕ). names_length k 2 facility_size s) (sym (facilities-count x)) (ap (λ (y : Sections). y.facilities) e) in
      let o : operation_names ≡ names_length (length os) 0 operation_size (concat operation_record os) =
      ap₂ (λ (k : ℕ) (s : List ℕ). names_length k 0 operation_size s) (sym (operations-count x)) (ap (λ (y : Sections). y.operations) e) in
      let s : state_names ≡ names_length (length ss) 0 state_size (concat state_record ss) =
      ap₂ (λ (k : ℕ) (t : List ℕ). names_length k 0 state_size t) (sym (states-count x)) (ap (λ (y : Sections). y.states) e) in
      let n : x.names ≡ name_bytes (described x) = ap (λ (y : Sections). y.names) e in
      let l : length x.names ≡ length (concat (λ f. f.name) fs) + (length (concat (λ o. o.name) os) + length (concat (λ s. s.name) ss)) =
      ap length n ∙ simp length-append in
      omega (arith, f, o, s, l, facilities-most fs, operations-most os, states-most ss, ap length (n ∙ names-taken), length-take all_names x.names)

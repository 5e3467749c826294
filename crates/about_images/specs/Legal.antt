-- A description in legal form is in range.
use Rattle.std.specs.Prelude.{Bool, ◌||◌, List, [], ◌∷◌, ◌++◌, eqb, leb}
use Rattle.std.proofs.Math.Bool.{true, false, cond}
use Rattle.std.proofs.Math.Option.{Option, none, some}
use Rattle.std.proofs.Math.Path.{◌≡◌, refl, sym}
use Rattle.std.proofs.Common.{ap, ◌∙◌, mul-add, mul-suc, length-append}
use native.Mathlib.Omega.{arith}
use Prim.Native.Nat.{ℕ, zero, suc, ◌+◌, ◌-◌, ◌*◌, ◌≤◌, ◌<◌}
use borrow.Author.Tests.{eqb-true, le-leb, leb-true, ltb-false, ltb-true}
use Rattle.std.proofs.Math.Dec.{ltb}
use Rattle.std.proofs.Math.ListN.{get_or, length}
use Rattle.language.specs.ActionRules as J
use Rattle.language.specs.Canonical.{action_count, all, canonical, counted_records, counts_right, facilities_right, facility_right, is_capital, label_right, left_count, most_dimensions, name_parts, name_right, node_count, rank_of, total, value_count}
use Rattle.language.specs.Description as D
use Rattle.language.specs.Description.{Bounds, Description, Facility, FacilityPlaces, Node, State, action_at, constant_value, facility_at, facility_place, is_computed, is_sequencing, no_facility, no_places, no_run, node_at, operation_at, sequencing_of, span_of, state_at, word_length}
use Rattle.language.specs.Expressions.{terminal_below, terminal_judged}
use Rattle.language.specs.Image.{legal_form}
use Rattle.language.specs.Judging.{Judged, Worth, fine, refuse, unless}
use Rattle.language.specs.Layout.{facility_bytes}
use Rattle.language.specs.Ceilings.{largest_bound, longest, longest_name, most_counted, most_facilities, most_operations, most_states}
use Rattle.language.specs.Order.{facility_roots, operation_roots, start_at, start_node, state_roots, value_root}
use Rattle.language.specs.Recursion.{below-ge}
use Rattle.language.specs.declared.refusals.Refusal.TheVariants.{BadSequencing, BadSubscript, NoContinuation}
use Rattle.language.specs.Rules.{bounds_faults, facilities_faults, facility_faults, first_faults, length_if_any, repeated, sequencing_length, sequencing_right, value_faults}
use Rattle.language.specs.Scan.{reserved_kind}
use Rattle.language.specs.Tree.{Kind, Name, computed, input, memory, plain, register, sequencing}
use Rattle.language.specs.Value.{Value}
use Rattle.language.specs.Words.{Fault, Position}
use Rattle.about_running.specs.Judged.{append-none-left, append-none-right, faulty-fine, unless-none}
use Rattle.about_running.specs.LegalForm.{Legal, after-names, canonical-so, counts-so, facility-none, left-of, legal, no-faults, right_of, runs_so, trees-so}
use Rattle.about_running.specs.StateValues.{found_from}
use Rattle.image_records.proofs.NodeBack.{Half}
use Rattle.about_images.specs.Acts.{Own, run-sane}
use Rattle.about_images.specs.Counted.{count, count_add, count-all}
use Rattle.about_images.specs.Covered.{Computed, Covered, Each, Inside, Sound, Trees, each_append, each_of, facility-own, lefts-most, operations-cover, states-cover, trees-cover}
use Rattle.about_images.specs.Depth.{bounded, depth_at, most_actions, most_expressions, shallow, shallow-so}
use Rattle.about_images.specs.Fine.{constant-tree, proper-tree, side-tree}
use Rattle.about_images.specs.Trees.{counts}
use Rattle.language.specs.Tests.{both}

-- ---- Tests over lists.

pub all-at : {A : Type 0} (f : A → Bool) (z : A) (xs : List A) → all f xs ≡ true → (i : ℕ) → i < length xs → f (get_or xs i z) ≡ true
unfolding all
all-at f z [] e i h = absurd (omega arith)
all-at f z (x ∷ xs) e zero h = left-of (f x) (all f xs) e
all-at f z (x ∷ xs) e (suc i) h = all-at f z xs (right_of (f x) (all f xs) e) i (omega arith)

-- A name is short.
pub name-short : (n : Name) → name_right n ≡ true → length n < 256
unfolding name_right longest_name
name-short [] e = omega arith
name-short (b ∷ n) e =
    omega (arith, leb-true (length (b ∷ n)) 132 (left-of (leb (length (b ∷ n)) 132) (eqb (reserved_kind (b ∷ n)) 0) (right_of (name_parts n) _ (right_of (is_capital b) _ e))))

pub label-short : (n : Name) (v : Option ℕ) → label_right n v ≡ true → length n < 256
label-short [] v e = omega arith
label-short (b ∷ n) v e = name-short (b ∷ n) e

-- Dimensions are few.
dimensions-few : (k : Kind) → most_dimensions k ≤ 2
dimensions-few register = omega arith
dimensions-few sequencing = omega arith
dimensions-few memory = omega arith
dimensions-few plain = omega arith
dimensions-few input = omega arith
dimensions-few computed = omega arith

pub shapes-at : (rank : ℕ) (fs : List Facility) → facilities_right rank fs ≡ true → (i : ℕ) → i < length fs → (get_or fs i no_facility).dimensions < 256
unfolding facilities_right facility_right
shapes-at rank [] e i h = absurd (omega arith)
shapes-at rank (f ∷ fs) e zero h =
    let s = left-of (facility_right f) (facilities_right (rank_of f.kind) fs) (right_of (leb rank (rank_of f.kind)) _ e) in
    let l = leb-true f.dimensions (most_dimensions f.kind) (left-of (leb f.dimensions (most_dimensions f.kind)) _ s) in
    omega (arith, dimensions-few f.kind)
shapes-at rank (f ∷ fs) e (suc i) h =
    shapes-at (rank_of f.kind) fs (right_of (facility_right f) _ (right_of (leb rank (rank_of f.kind)) _ e)) i (omega arith)

-- ---- Bounds.

pub record Roomy (f : Facility) : Type 0 where
  pub words : Half f.words.first × Half f.words.last
  pub bits : Half f.bits.first × Half f.bits.last

bounds-at : (d : Description) (n : ℕ) (another : Bool) (before : ℕ) (fs : List Facility) → facilities_faults d no_places n another before fs ≡ [] → (i : ℕ) → i < length fs → Roomy (get_or fs i no_facility)
unfolding facilities_faults bounds_faults largest_bound
bounds-at d n another before [] e i h = absurd (omega arith)
bounds-at d n another before (f ∷ fs) e zero h = roomy (or_left _ _ (append-none-left _ _ e))
  where
    or_left : (xs ys : List Fault) → first_faults d no_places xs ys ≡ [] → xs ≡ []
    or_left [] ys e = refl
    or_left (x ∷ xs) ys e = e

    half : (n : ℕ) (p : Position) → unless (leb n 65535) p BadSubscript ≡ [] → Half n
    half n p e = omega (arith, leb-true n 65535 (unless-none (leb n 65535) p BadSubscript e))

    roomy : bounds_faults d no_places f (facility_place no_places n) ≡ [] → Roomy f
    roomy g =
        let at = facility_place no_places n in
        let g1 = append-none-right (unless (leb f.words.first 65535) at.words_first BadSubscript) _ g in
        let g2 = append-none-right (unless (leb f.words.last 65535) at.words_last BadSubscript) _ g1 in
        record {
          words = (half _ at.words_first (append-none-left _ _ g), half _ at.words_last (append-none-left _ _ g1));
          bits = (half _ at.bits_first (append-none-left _ _ g2), half _ at.bits_last (append-none-right (unless (leb f.bits.first 65535) at.bits_first BadSubscript) _ g2));
        }
bounds-at d n another before (f ∷ fs) e (suc i) h =
    bounds-at d (suc n) (another || is_sequencing f.kind) (before + facility_bytes f) fs
    (append-none-right (first_faults d no_places (bounds_faults d no_places f (facility_place no_places n)) (facility_faults d no_places n another before f (facility_place no_places n))) _ e) i (omega arith)

-- ---- Constants.

constant-so : (x : Node) → 1 ≤ (constant_value x).length → (v : Value) × (x ≡ D.constant v)
constant-so (D.constant v) h = (v, refl)
constant-so (D.more m) h = absurd (omega arith)
constant-so (D.whole f) h = absurd (omega arith)
constant-so (D.one f a) h = absurd (omega arith)
constant-so (D.part f b) h = absurd (omega arith)
constant-so (D.two f a g) h = absurd (omega arith)
constant-so (D.word_part f a b) h = absurd (omega arith)
constant-so (D.binary k a b) h = absurd (omega arith)
constant-so (D.prefix k a) h = absurd (omega arith)
constant-so (D.cut k a c) h = absurd (omega arith)
constant-so (D.first_arm a) h = absurd (omega arith)
constant-so (D.next_arm a b) h = absurd (omega arith)
constant-so (D.choice a b m) h = absurd (omega arith)
constant-so D.Node.broken h = absurd (omega arith)

some_bits : (f : Facility) → 1 ≤ word_length f
unfolding word_length span_of
some_bits f = go (eqb f.dimensions 0) (leb f.bits.first f.bits.last)
  where
    go : (a b : Bool) → 1 ≤ cond a 1 (cond b (f.bits.last - f.bits.first + 1) (f.bits.first - f.bits.last + 1))
    go true b = omega arith
    go false true = omega arith
    go false false = omega arith

-- ---- Sums.

total-most : {A : Type 0} (f g : A → ℕ) (k : ℕ) → ((x : A) → f x ≤ k * g x) → (xs : List A) → total f xs ≤ k * total g xs
unfolding total
total-most f g k h [] = omega arith
total-most f g k h (x ∷ xs) = omega (arith, h x, total-most f g k h xs, mul-add k (g x) (total g xs))

pub total-few : {A : Type 0} (f : A → ℕ) (k : ℕ) (z : A) (xs : List A) → ((i : ℕ) → i < length xs → f (get_or xs i z) ≤ k) → total f xs ≤ k * length xs
unfolding total
total-few f k z [] h = omega arith
total-few f k z (x ∷ xs) h = omega (arith, h 0 (omega arith), total-few f k z xs (λ i g. h (suc i) (omega arith)), mul-suc k (length xs))

-- ---- A description in legal form.

-- Only computed terminals have expressions.
abbrev pub Plain : Description → Type 0
Plain d = (n : ℕ) → n < length d.facilities → is_computed (facility_at d n).kind ≡ false → (facility_at d n).expression ≡ 0

module _ (d : Description) (h : legal_form d ≡ true) where
  abbrev many : ℕ
  many = length d.facilities

  abbrev pub end : ℕ
  end = length d.actions

  L : Legal d
  L = legal d h

  -- ---- Counts.

  pub few-facilities : many ≤ 256
  unfolding counts_right most_facilities
  few-facilities = leb-true many 256 (left-of (leb many 256) _ (counts-so d h))

  pub few-operations : length d.operations ≤ 128
  unfolding counts_right most_facilities most_operations
  few-operations = leb-true (length d.operations) 128 (left-of (leb (length d.operations) 128) _ (right_of (leb many 256) _ (counts-so d h)))

  after-operations : both (leb (length d.states) 256) (both (ltb 0 (length d.states)) (both (ltb 0 many) (leb (counted_records d) most_counted))) ≡ true
  unfolding counts_right most_facilities most_operations most_states
  after-operations = right_of (leb (length d.operations) 128) _ (right_of (leb many 256) _ (counts-so d h))

  pub few-states : length d.states ≤ 256
  few-states = leb-true (length d.states) 256 (left-of (leb (length d.states) 256) _ after-operations)

  few-counted : counted_records d ≤ 2048
  unfolding most_counted
  few-counted = leb-true (counted_records d) 2048 (right_of (ltb 0 many) _ (right_of (ltb 0 (length d.states)) _ (right_of (leb (length d.states) 256) _ after-operations)))

  -- ---- Declarations.

  abbrev labels : Bool
  labels = all (λ s. label_right s.name s.value) d.states

  abbrev operation_names : Bool
  operation_names = all (λ o. name_right o.name) d.operations

  abbrev facility_names : Bool
  facility_names = all (λ f. name_right f.name) d.facilities

  pub shapes-so : facilities_right 0 d.facilities ≡ true
  unfolding canonical
  shapes-so = left-of (facilities_right 0 d.facilities) _ (right_of (counts_right d) _ (canonical-so d h))

  pub facility-names-so : facility_names ≡ true
  unfolding canonical
  facility-names-so = left-of facility_names _ (right_of (facilities_right 0 d.facilities) _ (right_of (counts_right d) _ (canonical-so d h)))

  pub operation-names-so : operation_names ≡ true
  unfolding canonical
  operation-names-so = left-of operation_names _ (right_of facility_names _ (right_of (facilities_right 0 d.facilities) _ (right_of (counts_right d) _ (canonical-so d h))))

  pub labels-so : labels ≡ true
  unfolding canonical
  labels-so =
      left-of labels _ (right_of operation_names _ (right_of facility_names _ (right_of (facilities_right 0 d.facilities) _ (right_of (counts_right d) _ (canonical-so d h)))))

  facilities-clean : facilities_faults d no_places 0 false 0 d.facilities ≡ []
  facilities-clean = append-none-left _ _ (after-names d (no-faults d h))

  pub roomy : (n : ℕ) → n < many → Roomy (facility_at d n)
  unfolding facility_at
  roomy n l = bounds-at d 0 false 0 d.facilities facilities-clean n l

  -- ---- Roots.

  terminal-own : (f : ℕ) → f < many → is_computed (facility_at d f).kind ≡ true → Own d (facility_at d f).expression
  unfolding terminal_judged
  terminal-own f l c s o =
      proper-tree d no_places (terminal_below d no_places f) f (omega (arith, few-facilities)) (λ g k. (roomy g (omega arith)).bits) (facility_at d f).expression s o (L.terminals f l c).1

  right-own : (in_state : Bool) (works : ℕ → Judged) (n : ℕ) (w : Worth) → J.right d no_places in_state works n ≡ fine w → Own d n
  right-own in_state works n w e s o = proper-tree d no_places (terminal_below d no_places many) many few-facilities (λ g k. (roomy g k).bits) n s o e

  side-own : (in_state : Bool) (works : ℕ → Judged) (n : ℕ) (w : Worth) → J.side d no_places in_state works n ≡ fine w → Own d n
  side-own in_state works n w e s o = side-tree d no_places (terminal_below d no_places many) many few-facilities (λ g k. (roomy g k).bits) n s o e

  -- Only operations before may be named.
  known-works : (k : ℕ) → k ≤ 128 → (o : ℕ) (w : Worth) → J.operation_below d no_places k o ≡ fine w → Half o
  unfolding J.operation_below
  known-works k m o w e = go (ltb o k) refl
    where
      go : (b : Bool) → ltb o k ≡ b → Half o
      go true q = omega (arith, ltb-true o k q)
      go false q = faulty-fine (sym (below-ge (J.unknown_operation d no_places) (J.operation_step d no_places) k o (ltb-false o k q)) ∙ e)

  body-fine : (o : ℕ) {w : Worth} → J.operation_judged d no_places o ≡ fine w → J.run_judged d no_places false (J.operation_below d no_places o) (operation_at d o).body ≡ fine w
  unfolding J.operation_judged
  body-fine o {w} e = go (eqb (operation_at d o).body.count 0) e
    where
      go : (b : Bool) → cond b (refuse D.nowhere NoContinuation) (J.run_judged d no_places false (J.operation_below d no_places o) (operation_at d o).body) ≡ fine w
          → J.run_judged d no_places false (J.operation_below d no_places o) (operation_at d o).body ≡ fine w
      go true k = faulty-fine k
      go false k = k

  operation-sound : (o : ℕ) → o < length d.operations → Sound d end (operation_at d o).body
  operation-sound o l le =
      let works = J.operation_below d no_places o in
      run-sane d no_places end few-states false works (known-works o (omega (arith, few-operations))) (side-own false works) (right-own false works) (operation_at d o).body le
      (body-fine o (L.operations o l).1)

  state-sound : (s : ℕ) → s < length d.states → Sound d end (state_at d s).actions
  state-sound s l le =
      let works = J.operation_below d no_places (length d.operations) in
      run-sane d no_places end few-states true works (known-works (length d.operations) few-operations) (side-own true works) (right-own true works) (state_at d s).actions le
      (L.states s l).1.1.run-fine

  -- ---- States' values: constants as long as the sequencing register.

  register-most : (f : ℕ) → sequencing_of d ≡ some f → word_length (facility_at d f) ≤ 256
  unfolding sequencing_of facility_at facility_faults sequencing_right longest
  register-most f e =
      let y = found_from 0 f d.facilities e in
      let k : ℕ = y.0 in
      let x = facility-none d no_places d.facilities 0 k false 0 facilities-clean y.2.inside in
      let g : Facility = get_or d.facilities k no_facility in
      let at : FacilityPlaces = facility_place no_places (0 + k) in
      let t : cond (is_sequencing g.kind) (sequencing_right d no_places x.0 g) true ≡ true =
      unless-none (cond (is_sequencing g.kind) (sequencing_right d no_places x.0 g) true) at.name BadSequencing (append-none-left _ _ x.1.1) in
      let r : sequencing_right d no_places x.0 g ≡ true = rw y.2.sequencing at t in
      let m : word_length g ≤ 256 = leb-true (word_length g) 256 (right_of (leb g.dimensions 1) _ (right_of (cond x.0 false true) _ r)) in
      let z : f ≡ k = omega (arith, y.1) in
      rw z m

  register-long : (l : ℕ) → sequencing_length d no_places ≡ some l → (1 ≤ l) × (l ≤ 256)
  unfolding sequencing_length
  register-long l e = go (sequencing_of d) refl e
    where
      go : (x : Option ℕ) → sequencing_of d ≡ x → length_if_any d no_places x ≡ some l → (1 ≤ l) × (l ≤ 256)
      go none q k = absurd (let z : ◌≡◌ {A = ℕ} 0 1 = cc in omega arith)
      go (some f) q k =
          let z : word_length (facility_at d f) ≡ l = cc in
          let y = register-most f q in
          (rw (← z) (some_bits (facility_at d f)), omega (arith, y))

  value-own : (v : Option ℕ) (before : List ℕ) (at : Position) (x : Option ℕ) → sequencing_length d no_places ≡ x → value_faults d no_places x before at v ≡ [] → Each (Own d) (value_root d v)
  unfolding start_at start_node
  value-own none before at x q e = tt
  value-own (some n) before at none q e = absurd (let z : ◌≡◌ {A = ℕ} 0 1 = cc in omega arith)
  value-own (some n) before at (some l) q e =
      let v : Value = constant_value (node_at d n) in
      let t = unless-none (both (eqb v.length l) (cond (repeated d no_places v.number before) false true)) at BadSequencing e in
      let g : v.length ≡ l = eqb-true v.length l (left-of (eqb v.length l) _ t) in
      let r = register-long l q in
      let c = constant-so (node_at d n) (omega (arith, g, r.0)) in
      let k : c.0.length ≡ l = sym (ap (λ (x : Node). (constant_value x).length) c.1) ∙ g in
      (λ s o. constant-tree d n s c.0 c.1 (omega (arith, k, r.0)) (omega (arith, k, r.1)) (rw c.1 at o) 0, tt)

  state-own : (s : ℕ) → s < length d.states → Each (Own d) (value_root d (state_at d s).value)
  state-own s l = let r = L.states s l in value-own (state_at d s).value r.0 r.1.0.value (sequencing_length d no_places) refl r.1.1.value-right

  -- ---- Runs and trees cover everything.

  abbrev pub middle : ℕ
  middle = (runs_so d h).middle

  pub states-all : Covered d end middle end (state_roots d d.states) (total value_count d.states) × Each (λ x. Inside d end x.actions) d.states
  unfolding state_at
  states-all =
      let z : State = record { name = []; value = none; actions = no_run } in
      states-cover d end middle end d.states (omega arith) (runs_so d h).second (each_of (λ x. Sound d end x.actions) z d.states state-sound)
      (each_of (λ x. Each (Own d) (value_root d x.value)) z d.states state-own)

  pub before-end : middle ≤ end
  before-end = omega (arith, states-all.0.ends)

  pub operations-all : Covered d end 0 middle (operation_roots d d.operations) 0 × Each (λ o. Inside d middle o.body) d.operations
  unfolding operation_at
  operations-all =
      operations-cover d end 0 middle d.operations before-end (runs_so d h).first
      (each_of (λ o. Sound d end o.body) (record { name = []; body = no_run }) d.operations operation-sound)

  facilities-all : Each (Own d) (facility_roots d d.facilities)
  unfolding facility_at
  facilities-all = facility-own d d.facilities (each_of (Computed d) no_facility d.facilities terminal-own)

  abbrev pub roots : List ℕ
  roots = facility_roots d d.facilities ++ (operation_roots d d.operations ++ state_roots d d.states)

  pub trees-all : Trees d 0 (length d.expressions) (length roots)
  trees-all =
      trees-cover d 0 roots (length d.expressions) (trees-so d h)
      (each_append (Own d) (facility_roots d d.facilities) _ facilities-all (each_append (Own d) (operation_roots d d.operations) (state_roots d d.states) operations-all.0.own states-all.0.own))

  -- ---- How many records there are.

  nodes-sum : count (counts d) 0 trees-all.many ≡ total node_count d.expressions
  unfolding node_at
  nodes-sum =
      let e : trees-all.many ≡ length d.expressions = omega (arith, trees-all.ends) in
      rw e (count-all node_count D.Node.broken (counts d) d.expressions 0 (λ n. let z : 0 + n ≡ n = omega arith in rw z))

  over-actions : (f : D.Action → ℕ) → count (λ n. f (action_at d n)) 0 operations-all.0.many + count (λ n. f (action_at d n)) middle states-all.0.many ≡ total f d.actions
  unfolding action_at
  over-actions f =
      let a = operations-all.0.many in
      let b = states-all.0.many in
      let e : 0 + a ≡ middle = operations-all.0.ends in
      let g : a + b ≡ end = omega (arith, states-all.0.ends) in
      let c = count_add (λ n. f (action_at d n)) 0 a b in
      let k : count (λ n. f (action_at d n)) 0 end ≡ total f d.actions = count-all f D.Action.broken (λ n. f (action_at d n)) d.actions 0 (λ n. let z : 0 + n ≡ n = omega arith in rw z) in
      sym (rw (g, e) at c) ∙ k

  values-few : total value_count d.states ≤ 256
  values-few =
      let z : State = record { name = []; value = none; actions = no_run } in
      let t = total-few value_count 1 z d.states (λ i l. at-most (get_or d.states i z).value (get_or d.states i z) refl) in
      omega (arith, few-states)
    where
      at-most : (v : Option ℕ) (s : State) → s.value ≡ v → value_count s ≤ 1
      at-most none s e = rw e (omega arith)
      at-most (some n) s e = rw e (omega arith)

  -- All that counts, with what does not.
  counted-all : count (counts d) 0 trees-all.many + total action_count d.actions ≤ 2048 + (total left_count d.actions + total value_count d.states)
  unfolding counted_records
  counted-all = omega (arith, nodes-sum, few-counted)

  -- Left sides and values are roots.
  rooted : total left_count d.actions + total value_count d.states ≤ length roots
  rooted =
      omega (
        arith,
        operations-all.0.lefts_in,
        states-all.0.lefts_in,
        over-actions left_count,
        length-append (facility_roots d d.facilities) (operation_roots d d.operations ++ state_roots d d.states),
        length-append (operation_roots d d.operations) (state_roots d d.states),
      )

  abbrev pub Few : Type 0
  Few = (length d.expressions ≤ 34816) × (end ≤ 4096)

  pub few-records : Few
  few-records =
      let t = trees-all in
      let o = operations-all.0 in
      let s = states-all.0 in
      let a = over-actions action_count in
      let m = total-most left_count action_count 2 (lefts-most d) d.actions in
      (omega (arith, t.few, t.each, t.ends, m, counted-all, rooted, values-few), omega (arith, t.each, o.few, s.few, o.ends, s.ends, a, counted-all, rooted))

  -- No expression is deep.
  pub not-deep : (n : ℕ) → n < length d.expressions → depth_at d n ≤ 4097
  not-deep n l = omega (arith, trees-all.deep n (omega arith) l, counted-all, rooted)

  -- So the walks over a description in legal form are bounded.
  pub bounded-so : bounded d ≡ true
  unfolding bounded shallow most_expressions most_actions
  bounded-so = rw (le-leb _ _ few-records.0, le-leb _ _ few-records.1) (shallow-so d (length d.expressions) not-deep)

-- Sums over records taken one by one, and the test of all counts.
use mathlib.Core.Bool.{Bool, true, false}
use mathlib.Core.List.{List, [], ◌∷◌}
use mathlib.Core.Option.{Option, none, some}
use mathlib.Core.Path.{◌≡◌, refl, sym, ◌∙◌}
use Prim.Native.Nat.{ℕ, ◌+◌, ◌-◌, ◌<◌, ◌≤◌}
use native.Mathlib.Numerals.{add-one}
use native.Mathlib.Omega.{arith}
use borrow.Author.Tests.{le-leb, leb-false, leb-true, lt-leb, le-ltb, lt-ltb}
use lib.Dec.{leb}
use lib.ListN.{drop, drop_of_length-le, get_or, length}
use lib.Seq.{drop-cons}
use Rattle.language.specs.Canonical.{action_count, counted_records, counts_right, left_count, node_count, total, value_count}
use Rattle.language.specs.Description as D
use Rattle.language.specs.Description.{Description, State, action_at, no_run, node_at, state_at}
use Rattle.language.specs.Ceilings.{most_counted, most_facilities, most_operations, most_states}
use Rattle.image_form.specs.Values.{values_in}

-- ---- A sum over a list, n elements of which are done.

module _ {A : Type 0} (weight : A → ℕ) (xs : List A) (n : ℕ) where
  sum-next : (z : A) (s : ℕ) {b t : ℕ} → n < length xs → b ≡ weight (get_or xs n z) → s + total weight (drop n xs) ≡ t → s + b + total weight (drop (n + 1) xs) ≡ t
  unfolding total
  sum-next z s h e g =
      let k : total weight (drop n xs) ≡ weight (get_or xs n z) + total weight (drop (n + 1) xs) = rw (add-one n, drop-cons xs n z h) in
      omega arith

  pub sum_done : (s : ℕ) {t : ℕ} → length xs ≤ n → s + total weight (drop n xs) ≡ t → s ≡ t
  unfolding total
  sum_done s h g = let k : total weight (drop n xs) ≡ 0 = rw (drop_of_length-le xs h) in omega arith

module _ (d : Description) (n : ℕ) where
  pub nodes-next : (s : ℕ) {b t : ℕ} → n < length d.expressions → b ≡ node_count (node_at d n) → s + total node_count (drop n d.expressions) ≡ t
      → s + b + total node_count (drop (n + 1) d.expressions) ≡ t
  unfolding node_at
  nodes-next s h e g = sum-next node_count d.expressions n D.Node.broken s h e g

  pub actions-next : (weight : D.Action → ℕ) (s : ℕ) {b t : ℕ} → n < length d.actions → b ≡ weight (action_at d n) → s + total weight (drop n d.actions) ≡ t
      → s + b + total weight (drop (n + 1) d.actions) ≡ t
  unfolding action_at
  actions-next weight s h e g = sum-next weight d.actions n D.Action.broken s h e g

  pub states-next : (s : ℕ) {b t : ℕ} → n < length d.states → b ≡ value_count (state_at d n) → s + total value_count (drop n d.states) ≡ t
      → s + b + total value_count (drop (n + 1) d.states) ≡ t
  unfolding state_at
  states-next s h e g = sum-next value_count d.states n (record { name = []; value = none; actions = no_run }) s h e g

value-count-of : (v : Option ℕ) (s : State) → s.value ≡ v → values_in v ≡ value_count s
value-count-of none s e = rw e
value-count-of (some n) s e = rw e

pub value-counted : (s : State) {v : Option ℕ} → s.value ≡ v → values_in v ≡ value_count s
value-counted s {v} e = value-count-of v s e

-- ---- All counts.

node-most : (x : D.Node) → node_count x ≤ 1
node-most (D.constant v) = omega arith
node-most (D.more n) = omega arith
node-most (D.whole f) = omega arith
node-most (D.one f e) = omega arith
node-most (D.part f b) = omega arith
node-most (D.two f e g) = omega arith
node-most (D.word_part f e b) = omega arith
node-most (D.binary k a b) = omega arith
node-most (D.prefix k a) = omega arith
node-most (D.cut k a c) = omega arith
node-most (D.first_arm e) = omega arith
node-most (D.next_arm a e) = omega arith
node-most (D.choice e a n) = omega arith
node-most D.Node.broken = omega arith

action-most : (x : D.Action) → action_count x ≤ 1
action-most (D.store k l r) = omega arith
action-most (D.store_pair k l m r) = omega arith
action-most (D.set l) = omega arith
action-most (D.perform o) = omega arith
action-most (D.goto s) = omega arith
action-most (D.call s) = omega arith
action-most D.return = omega arith
action-most (D.when c x) = omega arith
action-most (D.choose c n x) = omega arith
action-most (D.arm x) = omega arith
action-most D.Action.broken = omega arith

total-most : {A : Type 0} (weight : A → ℕ) (xs : List A) → ((x : A) → weight x ≤ 1) → total weight xs ≤ length xs
unfolding total
total-most weight [] h = omega arith
total-most weight (x ∷ xs) h = omega (arith, h x, total-most weight xs h)

-- Few records.
pub counted-few : (d : Description) → length d.expressions + length d.actions ≤ 2048 → leb (counted_records d) most_counted ≡ true
unfolding counted_records most_counted
counted-few d h =
    let n : total node_count d.expressions ≤ length d.expressions = total-most node_count d.expressions node-most in
    let a : total action_count d.actions ≤ length d.actions = total-most action_count d.actions action-most in
    le-leb (total node_count d.expressions + total action_count d.actions - (total left_count d.actions + total value_count d.states)) 2048 (omega arith)

-- A difference is at most c where the whole is at most c and what is taken from it.
pub counted-so : (d : Description) {a b x y : ℕ} → a ≡ total node_count d.expressions → b ≡ total action_count d.actions → x ≡ total left_count d.actions → y ≡ total value_count d.states
    → leb (a + b) (2048 + (x + y)) ≡ leb (counted_records d) most_counted
unfolding counted_records most_counted
counted-so d {a} {b} {x} {y} p q r s = rw (← p, ← q, ← r, ← s) (by-test (leb (a + b) (2048 + (x + y))) refl)
  where
    by-test : (t : Bool) → leb (a + b) (2048 + (x + y)) ≡ t → leb (a + b) (2048 + (x + y)) ≡ leb (a + b - (x + y)) 2048
    by-test true e = e ∙ sym (le-leb (a + b - (x + y)) 2048 (omega (arith, leb-true (a + b) (2048 + (x + y)) e)))
    by-test false e = e ∙ sym (lt-leb (a + b - (x + y)) 2048 (omega (arith, leb-false (a + b) (2048 + (x + y)) e)))

module _ (d : Description) where
  pub counts-facilities : 256 < length d.facilities → counts_right d ≡ false
  unfolding counts_right most_facilities
  counts-facilities h = rw (lt-leb _ _ h)

  module _ (f : length d.facilities ≤ 256) where
    pub counts-operations : 128 < length d.operations → counts_right d ≡ false
    unfolding counts_right most_facilities most_operations
    counts-operations h = rw (le-leb _ _ f, lt-leb _ _ h)

    module _ (o : length d.operations ≤ 128) where
      pub counts-states : 256 < length d.states → counts_right d ≡ false
      unfolding counts_right most_facilities most_operations most_states
      counts-states h = rw (le-leb _ _ f, le-leb _ _ o, lt-leb _ _ h)

      module _ (s : length d.states ≤ 256) where
        pub counts-no-state : length d.states ≡ 0 → counts_right d ≡ false
        unfolding counts_right most_facilities most_operations most_states
        counts-no-state h = rw (le-leb _ _ f, le-leb _ _ o, le-leb _ _ s, le-ltb 0 (length d.states) (omega arith))

        module _ (t : 0 < length d.states) where
          pub counts-no-facility : length d.facilities ≡ 0 → counts_right d ≡ false
          unfolding counts_right most_facilities most_operations most_states
          counts-no-facility h = rw (le-leb _ _ f, le-leb _ _ o, le-leb _ _ s, lt-ltb _ _ t, le-ltb 0 (length d.facilities) (omega arith))

          pub counts-rest : 0 < length d.facilities → counts_right d ≡ leb (counted_records d) most_counted
          unfolding counts_right most_facilities most_operations most_states
          counts-rest h = rw (le-leb _ _ f, le-leb _ _ o, le-leb _ _ s, lt-ltb _ _ t, lt-ltb _ _ h)

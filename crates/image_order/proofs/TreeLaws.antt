-- Trees one after the other, taken one by one.
use mathlib.Core.Bool.{Bool, true, false, cond}
use mathlib.Core.List.{List, [], ◌∷◌, ◌++◌, append_assoc}
use mathlib.Core.Option.{Option, none, some}
use mathlib.Core.Path.{◌≡◌, refl, sym, ap, ◌∙◌}
use Prim.Native.Nat.{ℕ, zero, suc, ◌+◌, ◌-◌, ◌<◌, ◌≤◌}
use native.Mathlib.Numerals.{add-one}
use native.Mathlib.Omega.{arith}
use borrow.Author.Tests.{eq-eqb, le-ltb, lt-ltb, ne_eqb}
use lib.Dec.{eqb, ltb}
use lib.ListN.{drop, drop_of_length-le, get_or, length}
use lib.Seq.{drop-cons}
use Rattle.language.specs.Description.{Description, Facility, Operation, State, action_at, facility_at, no_facility, no_run, operation_at, state_at}
use Rattle.language.specs.Order.{action_roots, ending, facility_roots, function_root, operation_roots, run_roots, start_at, state_roots, trees_end, trees_right, ends_at, value_root}
use Rattle.image_order.proofs.EdgeLaws.{edge-some}
use Rattle.image_order.specs.Edges.{after, edge}
use Rattle.language.specs.Tests.{both}

module _ (d : Description) where
  -- ---- One tree.

  pub tree-elsewhere : (at r e : ℕ) → edge e ≡ start_at d r → (e ≡ at → ⊥) → none ≡ after d (edge at) (r ∷ [])
  unfolding after trees_end
  tree-elsewhere zero r e p h = refl
  tree-elsewhere (suc n) r zero p h = rw (← p)
  tree-elsewhere (suc n) r (suc s) p h = rw (← p, ne_eqb s n (λ e. h (ap suc e)))

  pub tree-past : (at r : ℕ) {e : ℕ} → edge e ≡ start_at d r → e ≡ at → length d.expressions ≤ r → none ≡ after d (edge at) (r ∷ [])
  unfolding after trees_end
  tree-past zero r p q h = refl
  tree-past (suc n) r p q h = rw (← p, q, eq-eqb n n refl, le-ltb r (length d.expressions) h)

  pub tree-here : (at r : ℕ) {e : ℕ} → edge e ≡ start_at d r → e ≡ at → (at ≡ 0 → ⊥) → r < length d.expressions → edge (r + 2) ≡ after d (edge at) (r ∷ [])
  unfolding after trees_end
  tree-here zero r p q z h = absurd (z refl)
  tree-here (suc n) r p q z h =
      let e : r + 2 ≡ r + 1 + 1 = omega arith in
      rw (← p, q, eq-eqb n n refl, lt-ltb r (length d.expressions) h, e, edge-some (r + 1))

  pub after-nil : (e : Option ℕ) → after d e [] ≡ e
  unfolding after trees_end
  after-nil none = refl
  after-nil (some n) = refl

  -- ---- Trees and more trees.

  trees-append : (n : ℕ) (xs ys : List ℕ) → trees_end d n (xs ++ ys) ≡ ending (trees_end d n xs) (λ m. trees_end d m ys)
  unfolding trees_end
  trees-append n [] ys = refl
  trees-append n (r ∷ xs) ys = by-start (start_at d r) (trees-append (r + 1) xs ys)
    where
      by-test : (b : Bool) → trees_end d (r + 1) (xs ++ ys) ≡ ending (trees_end d (r + 1) xs) (λ m. trees_end d m ys)
          → cond b (trees_end d (r + 1) (xs ++ ys)) none ≡ ending (cond b (trees_end d (r + 1) xs) none) (λ m. trees_end d m ys)
      by-test true h = h
      by-test false h = refl

      by-start : (x : Option ℕ) → trees_end d (r + 1) (xs ++ ys) ≡ ending (trees_end d (r + 1) xs) (λ m. trees_end d m ys)
          → ending x (λ s. cond (both (eqb s n) (ltb r (length d.expressions))) (trees_end d (r + 1) (xs ++ ys)) none)
          ≡ ending (ending x (λ s. cond (both (eqb s n) (ltb r (length d.expressions))) (trees_end d (r + 1) xs) none)) (λ m. trees_end d m ys)
      by-start none h = refl
      by-start (some s) h = by-test (both (eqb s n) (ltb r (length d.expressions))) h

  pub after-append : (e : Option ℕ) (xs ys : List ℕ) → after d e (xs ++ ys) ≡ after d (after d e xs) ys
  unfolding after
  after-append none xs ys = refl
  after-append (some n) xs ys = trees-append n xs ys

  -- A tree more, and the rest.
  pub after_more : (e : Option ℕ) {x y : Option ℕ} (xs ys : List ℕ) → x ≡ after d e xs → y ≡ after d x ys → y ≡ after d e (xs ++ ys)
  after_more e xs ys p q = q ∙ ap (λ (z : Option ℕ). after d z ys) p ∙ sym (after-append e xs ys)

  -- ---- A run of actions, i of which are done.

  run_more : (k i : ℕ) → 0 < k → run_roots d k i ≡ action_roots d (action_at d i) ++ run_roots d (k - 1) (i + 1)
  unfolding run_roots
  run_more zero i h = absurd (omega arith)
  run_more (suc k) i h = let e : suc k - 1 ≡ k = omega arith in rw (e, add-one i)

  pub run-start : (e : Option ℕ) (k f : ℕ) → after d e (run_roots d (k - 0) (f + 0)) ≡ after d e (run_roots d k f)
  run-start e k f = let p : k - 0 ≡ k = omega arith in let q : f + 0 ≡ f = omega arith in rw (p, q)

  pub run-next : (e : Option ℕ) {x y : Option ℕ} (k f i : ℕ) → i < k → y ≡ after d e (action_roots d (action_at d (f + i)))
      → after d e (run_roots d (k - i) (f + i)) ≡ x → after d y (run_roots d (k - (i + 1)) (f + (i + 1))) ≡ x
  run-next e k f i h p q =
      let u : k - (i + 1) ≡ k - i - 1 = omega arith in
      let v : f + (i + 1) ≡ f + i + 1 = omega arith in
      rw (p, u, v, ← after-append e (action_roots d (action_at d (f + i))) (run_roots d (k - i - 1) (f + i + 1)), ← run_more (k - i) (f + i) (omega arith)) q

  pub run-done : (e : Option ℕ) {x : Option ℕ} (k f i : ℕ) → k ≤ i → after d e (run_roots d (k - i) (f + i)) ≡ x → e ≡ x
  unfolding run_roots
  run-done e k f i h q = let u : k - i ≡ 0 = omega arith in sym (after-nil e) ∙ rw u at q

  -- ---- Owners in a list, n of which are done.

  module _ {A : Type 0} (roots : List A → List ℕ) (own : A → List ℕ) (none_left : roots [] ≡ []) (more : (x : A) (xs : List A) → roots (x ∷ xs) ≡ own x ++ roots xs) where
    owners-next : (e : Option ℕ) {x y : Option ℕ} (xs : List A) (n : ℕ) (z : A) → n < length xs → y ≡ after d e (own (get_or xs n z))
        → after d e (roots (drop n xs)) ≡ x → after d y (roots (drop (n + 1) xs)) ≡ x
    owners-next e xs n z h p q =
        rw (p, add-one n, ← after-append e (own (get_or xs n z)) (roots (drop (suc n) xs)), ← more (get_or xs n z) (drop (suc n) xs), ← drop-cons xs n z h) q

    owners-done : (e : Option ℕ) {x : Option ℕ} (xs : List A) (n : ℕ) → length xs ≤ n → after d e (roots (drop n xs)) ≡ x → e ≡ x
    owners-done e xs n h q = sym (after-nil e) ∙ rw (drop_of_length-le xs h, none_left) at q

  facility-none : facility_roots d [] ≡ []
  unfolding facility_roots
  facility-none = refl

  facility-more : (f : Facility) (fs : List Facility) → facility_roots d (f ∷ fs) ≡ function_root d f f.kind ++ facility_roots d fs
  unfolding facility_roots
  facility-more f fs = refl

  operation-none : operation_roots d [] ≡ []
  unfolding operation_roots
  operation-none = refl

  operation-more : (o : Operation) (os : List Operation) → operation_roots d (o ∷ os) ≡ run_roots d o.body.count o.body.first ++ operation_roots d os
  unfolding operation_roots
  operation-more o os = refl

  abbrev pub state_own : State → List ℕ
  state_own s = value_root d s.value ++ run_roots d s.actions.count s.actions.first

  state-none : state_roots d [] ≡ []
  unfolding state_roots
  state-none = refl

  state-more : (s : State) (ss : List State) → state_roots d (s ∷ ss) ≡ state_own s ++ state_roots d ss
  unfolding state_roots
  state-more s ss = sym (append_assoc (value_root d s.value) (run_roots d s.actions.count s.actions.first) (state_roots d ss))

  pub facilities-next : (e : Option ℕ) {x y : Option ℕ} (n : ℕ) → n < length d.facilities → y ≡ after d e (function_root d (facility_at d n) (facility_at d n).kind)
      → after d e (facility_roots d (drop n d.facilities)) ≡ x → after d y (facility_roots d (drop (n + 1) d.facilities)) ≡ x
  unfolding facility_at
  facilities-next e n h p q = owners-next (facility_roots d) (λ f. function_root d f f.kind) facility-none facility-more e d.facilities n no_facility h p q

  pub facilities-done : (e : Option ℕ) {x : Option ℕ} (n : ℕ) → length d.facilities ≤ n → after d e (facility_roots d (drop n d.facilities)) ≡ x → e ≡ x
  facilities-done e n h q = owners-done (facility_roots d) (λ f. function_root d f f.kind) facility-none facility-more e d.facilities n h q

  pub operations-next : (e : Option ℕ) {x y : Option ℕ} (n : ℕ) → n < length d.operations
      → y ≡ after d e (run_roots d (operation_at d n).body.count (operation_at d n).body.first)
      → after d e (operation_roots d (drop n d.operations)) ≡ x → after d y (operation_roots d (drop (n + 1) d.operations)) ≡ x
  unfolding operation_at
  operations-next e n h p q =
      owners-next (operation_roots d) (λ o. run_roots d o.body.count o.body.first) operation-none operation-more e d.operations n (record { name = []; body = no_run }) h p q

  pub operations-done : (e : Option ℕ) {x : Option ℕ} (n : ℕ) → length d.operations ≤ n → after d e (operation_roots d (drop n d.operations)) ≡ x → e ≡ x
  operations-done e n h q =
      owners-done (operation_roots d) (λ o. run_roots d o.body.count o.body.first) operation-none operation-more e d.operations n h q

  pub states-next : (e : Option ℕ) {x y : Option ℕ} (n : ℕ) → n < length d.states → y ≡ after d e (state_own (state_at d n))
      → after d e (state_roots d (drop n d.states)) ≡ x → after d y (state_roots d (drop (n + 1) d.states)) ≡ x
  unfolding state_at
  states-next e n h p q = owners-next (state_roots d) state_own state-none state-more e d.states n (record { name = []; value = none; actions = no_run }) h p q

  pub states-done : (e : Option ℕ) {x : Option ℕ} (n : ℕ) → length d.states ≤ n → after d e (state_roots d (drop n d.states)) ≡ x → e ≡ x
  states-done e n h q = owners-done (state_roots d) state_own state-none state-more e d.states n h q

  trees-are : ends_at d (length d.expressions) (after d (some 0) (facility_roots d d.facilities ++ (operation_roots d d.operations ++ state_roots d d.states))) ≡ trees_right d
  unfolding trees_right after
  trees-are = refl

  -- All owners.
  pub all-trees : {x y z : Option ℕ} → x ≡ after d (some 0) (facility_roots d d.facilities) → y ≡ after d x (operation_roots d d.operations) → z ≡ after d y (state_roots d d.states)
      → ends_at d (length d.expressions) z ≡ trees_right d
  all-trees {x} p q r =
      let o = operation_roots d d.operations in
      let s = state_roots d d.states in
      ap (ends_at d (length d.expressions)) (after_more (some 0) (facility_roots d d.facilities) (o ++ s) p (after_more x o s q r)) ∙ trees-are

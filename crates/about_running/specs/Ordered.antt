-- Trees one after the other: where each begins, and that none reaches the next. Assumes nothing.
use Rattle.std.specs.Prelude.{Bool, ◌≡◌, eqb, length}
use Rattle.std.proofs.Math.Bool.{true, false, cond}
use mathlib.Core.List.{List, [], ◌∷◌, ◌++◌}
use Rattle.std.proofs.Math.Option.{Option, none, some}
use Rattle.std.proofs.Math.Path.{refl, ap}
use Rattle.std.proofs.Common.{subst, ◌∙◌, eqb-true, ltb-false, ltb-true}
use native.Mathlib.Omega.{arith}
use Prim.Native.Nat.{ℕ, zero, suc, ◌+◌, ◌-◌, ◌≤◌, ◌<◌}
use Rattle.std.proofs.Math.Dec.{ltb}
use Rattle.language.specs.Description.{Description, Operation, State, action_at}
use Rattle.language.specs.Order.{action_roots, ending, operation_roots, operations_end, run_roots, start_at, state_roots, states_end, trees_end, value_root}
use Rattle.about_running.specs.Starts.{none-some, start-le}
use Rattle.language.specs.Tests.{both}

first_of : (a b : Bool) → both a b ≡ true → a ≡ true
first_of true b h = refl
first_of false b h = h

module _ (d : Description) where
  -- The tree of r begins at `at`, and the rest after it.
  pub record Tree (at r : ℕ) (rs : List ℕ) (m : ℕ) : Type 0 where
    pub start : start_at d r ≡ some at
    pub rest : trees_end d (r + 1) rs ≡ some m

  pub tree-first : (at r : ℕ) (rs : List ℕ) (m : ℕ) → trees_end d at (r ∷ rs) ≡ some m → Tree at r rs m
  unfolding trees_end
  tree-first at r rs m e = go (start_at d r) refl e
    where
      inner : (s : ℕ) → start_at d r ≡ some s → (b : Bool) → both (eqb s at) (ltb r (length d.expressions)) ≡ b → cond b (trees_end d (r + 1) rs) none ≡ some m → Tree at r rs m
      inner s q true t k = record { start = q ∙ ap some (eqb-true s at (first_of (eqb s at) (ltb r (length d.expressions)) t)); rest = k }
      inner s q false t k = none-some k

      go : (x : Option ℕ) → start_at d r ≡ x → ending x (λ s. let on = trees_end d (r + 1) rs in cond (both (eqb s at) (ltb r (length d.expressions))) on none) ≡ some m → Tree at r rs m
      go none q k = none-some k
      go (some s) q k = inner s q (both (eqb s at) (ltb r (length d.expressions))) refl k

  pub ends-le : (at : ℕ) (rs : List ℕ) (m : ℕ) → trees_end d at rs ≡ some m → at ≤ m
  unfolding trees_end
  ends-le at [] m e = let z : at ≡ m = cc in omega arith
  ends-le at (r ∷ rs) m e =
      let t = tree-first at r rs m e in
      let h : at ≤ r = start-le d r at t.start in
      let k : r + 1 ≤ m = ends-le (r + 1) rs m t.rest in
      omega arith

  pub record Split (at : ℕ) (xs ys : List ℕ) (m : ℕ) : Type 0 where
    pub middle : ℕ
    pub left : trees_end d at xs ≡ some middle
    pub right : trees_end d middle ys ≡ some m

  pub trees-split : (at : ℕ) (xs ys : List ℕ) (m : ℕ) → trees_end d at (xs ++ ys) ≡ some m → Split at xs ys m
  unfolding trees_end
  trees-split at [] ys m e = record { middle = at; left = refl; right = e }
  trees-split at (r ∷ xs) ys m e =
      let t = tree-first at r (xs ++ ys) m e in
      let s = trees-split (r + 1) xs ys m t.rest in
      record { middle = s.middle; left = tree_again at r xs s.middle t s.left e; right = s.right }
    where
      tree_again : (at r : ℕ) (xs : List ℕ) (k : ℕ) → Tree at r (xs ++ ys) m → trees_end d (r + 1) xs ≡ some k → trees_end d at (r ∷ xs ++ ys) ≡ some m → trees_end d at (r ∷ xs) ≡ some k
      tree_again at r xs k t l e' = rw t.start (again (both (eqb at at) (ltb r (length d.expressions))) (rw t.start at e') l)
        where
          again : (b : Bool) → cond b (trees_end d (r + 1) (xs ++ ys)) none ≡ some m → trees_end d (r + 1) xs ≡ some k → cond b (trees_end d (r + 1) xs) none ≡ some k
          again true p q = q
          again false p q = none-some p

  -- Each root of a list stands in order, from a place on, and before where they end.
  abbrev pub InOrder : ℕ → ℕ → List ℕ → Type 0
  InOrder at m [] = Unit {0}
  InOrder at m (r ∷ rs) = ((s : ℕ) × (start_at d r ≡ some s) × (at ≤ s) × (r < m)) × InOrder at m rs

  pub weaken : (at at' m : ℕ) (rs : List ℕ) → at' ≤ at → InOrder at m rs → InOrder at' m rs
  weaken at at' m [] h o = tt
  weaken at at' m (r ∷ rs) h o = ((o.0.0, o.0.1, omega (arith, o.0.2), o.0.3), weaken at at' m rs h o.1)

  pub in_order : (at : ℕ) (rs : List ℕ) (m : ℕ) → trees_end d at rs ≡ some m → InOrder at m rs
  in_order at [] m e = tt
  in_order at (r ∷ rs) m e =
      let t = tree-first at r rs m e in
      let h : at ≤ r = start-le d r at t.start in
      let k : r + 1 ≤ m = ends-le (r + 1) rs m t.rest in
      ((at, t.start, omega arith, omega arith), weaken (r + 1) at m rs (omega arith) (in_order (r + 1) rs m t.rest))

  pub order-left : (at m : ℕ) (xs ys : List ℕ) → InOrder at m (xs ++ ys) → InOrder at m xs
  order-left at m [] ys o = tt
  order-left at m (x ∷ xs) ys o = (o.0, order-left at m xs ys o.1)

  pub order-right : (at m : ℕ) (xs ys : List ℕ) → InOrder at m (xs ++ ys) → InOrder at m ys
  order-right at m [] ys o = o
  order-right at m (x ∷ xs) ys o = order-right at m xs ys o.1

  -- ---- Every action lies in a run, and so its roots are in order.

  pub run-order : (at m k i j : ℕ) → InOrder at m (run_roots d k i) → j < k → InOrder at m (action_roots d (action_at d (i + j)))
  unfolding run_roots
  run-order at m zero i j o h = absurd (omega arith)
  run-order at m (suc k) i zero o h = let z : i + 0 ≡ i = omega arith in rw z (order-left at m (action_roots d (action_at d i)) (run_roots d k (suc i)) o)
  run-order at m (suc k) i (suc j) o h =
      let z : i + suc j ≡ suc i + j = omega arith in
      rw z (run-order at m k (suc i) j (order-right at m (action_roots d (action_at d i)) (run_roots d k (suc i)) o) (omega arith))

  within-run : (at m k a i : ℕ) → InOrder at m (run_roots d k a) → a ≤ i → i < a + k → InOrder at m (action_roots d (action_at d i))
  within-run at m k a i o h l = let z : a + (i - a) ≡ i = omega arith in rw z at (run-order at m k a (i - a) o (omega arith))

  -- Runs one after the other.
  pub record Runs (at first count : ℕ) (rest : Option ℕ) (m : ℕ) : Type 0 where
    pub begins : first ≡ at
    pub goes_on : rest ≡ some m

  runs-first : (at first count : ℕ) (rest : Option ℕ) (m : ℕ) (b : Bool) → eqb first at ≡ b → cond b rest none ≡ some m → Runs at first count rest m
  runs-first at first count rest m true q e = record { begins = eqb-true first at q; goes_on = e }
  runs-first at first count rest m false q e = none-some e

  pub operations-order : (at m a b i : ℕ) (os : List Operation) → InOrder at m (operation_roots d os) → operations_end d a os ≡ some b → a ≤ i → i < b → InOrder at m (action_roots d (action_at d i))
  unfolding operation_roots operations_end
  operations-order at m a b i [] o e h l = absurd (let z : a ≡ b = cc in omega arith)
  operations-order at m a b i (x ∷ os) o e h l =
      let r = runs-first a x.body.first x.body.count (operations_end d (a + x.body.count) os) b (eqb x.body.first a) refl e in
      go (λ o' e' h'. operations-order at m (a + x.body.count) b i os o' e' h' l) r.begins r.goes_on (ltb i (a + x.body.count)) refl
    where
      go : (InOrder at m (operation_roots d os) → operations_end d (a + x.body.count) os ≡ some b → a + x.body.count ≤ i → InOrder at m (action_roots d (action_at d i)))
          → x.body.first ≡ a → operations_end d (a + x.body.count) os ≡ some b → (t : Bool) → ltb i (a + x.body.count) ≡ t → InOrder at m (action_roots d (action_at d i))
      go on f g true q = within-run at m x.body.count a i (subst (λ (n : ℕ). InOrder at m (run_roots d x.body.count n)) f (order-left at m (run_roots d x.body.count x.body.first) (operation_roots d os) o)) h (ltb-true i _ q)
      go on f g false q = on (order-right at m (run_roots d x.body.count x.body.first) (operation_roots d os) o) g (ltb-false _ _ q)

  pub states-order : (at m a b i : ℕ) (ss : List State) → InOrder at m (state_roots d ss) → states_end d a ss ≡ some b → a ≤ i → i < b → InOrder at m (action_roots d (action_at d i))
  unfolding state_roots states_end
  states-order at m a b i [] o e h l = absurd (let z : a ≡ b = cc in omega arith)
  states-order at m a b i (x ∷ ss) o e h l =
      let r = runs-first a x.actions.first x.actions.count (states_end d (a + x.actions.count) ss) b (eqb x.actions.first a) refl e in
      go (λ o' e' h'. states-order at m (a + x.actions.count) b i ss o' e' h' l) r.begins r.goes_on (ltb i (a + x.actions.count)) refl
    where
      o' : InOrder at m (run_roots d x.actions.count x.actions.first ++ state_roots d ss)
      o' = order-right at m (value_root d x.value) (run_roots d x.actions.count x.actions.first ++ state_roots d ss) o

      go : (InOrder at m (state_roots d ss) → states_end d (a + x.actions.count) ss ≡ some b → a + x.actions.count ≤ i → InOrder at m (action_roots d (action_at d i)))
          → x.actions.first ≡ a → states_end d (a + x.actions.count) ss ≡ some b → (t : Bool) → ltb i (a + x.actions.count) ≡ t → InOrder at m (action_roots d (action_at d i))
      go on f g true q = within-run at m x.actions.count a i (subst (λ (n : ℕ). InOrder at m (run_roots d x.actions.count n)) f (order-left at m (run_roots d x.actions.count x.actions.first) (state_roots d ss) o')) h (ltb-true i _ q)
      go on f g false q = on (order-right at m (run_roots d x.actions.count x.actions.first) (state_roots d ss) o') g (ltb-false _ _ q)

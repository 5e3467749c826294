-- Trees and runs one after the other cover all records: what holds of each holds of all.
use Rattle.std.specs.Prelude.{Bool, cond, ◌≡◌, eqb, get_or}
use Rattle.std.proofs.Math.Bool.{true, false}
use mathlib.Core.List.{List, [], ◌∷◌, ◌++◌}
use Rattle.std.proofs.Math.Option.{Option, none, some}
use Rattle.std.proofs.Math.Path.{refl, subst}
use Rattle.std.proofs.Common.{◌∙◌}
use native.Mathlib.Omega.{arith}
use Prim.Native.Nat.{ℕ, zero, suc, ◌+◌, ◌*◌, ◌≤◌, ◌<◌}
use borrow.Author.Tests.{eqb-true, ltb-false, ltb-true}
use Rattle.std.proofs.Math.Dec.{ltb}
use Rattle.std.proofs.Math.ListN.{length, length-append}
use Rattle.language.specs.Canonical.{action_count, left_count, total, value_count}
use Rattle.language.specs.Description as D
use Rattle.language.specs.Description.{Action, Description, Facility, Operation, Run, State, action_at, node_at}
use Rattle.language.specs.Order.{action_roots, facility_roots, function_root, operation_roots, operations_end, run_roots, state_roots, states_end, trees_end, value_root}
use Rattle.language.specs.Tree.{Kind, computed, input, memory, plain, register, sequencing}
use Rattle.about_running.specs.Ordered.{tree-first}
use Rattle.about_running.specs.Starts.{none-some}
use Rattle.about_images.specs.Acts.{Own, SaneAct, acts}
use Rattle.about_images.specs.Counted.{count, count_add}
use Rattle.about_images.specs.Depth.{depth_at}
use Rattle.about_images.specs.Trees.{Sane, counts}
use Rattle.language.specs.Encode.{node_size}

-- ---- Each element of a list.

abbrev pub Each : {A : Type 0} → (A → Type 0) → List A → Type 0
Each P [] = Unit {0}
Each P (x ∷ xs) = P x × Each P xs

pub each_of : {A : Type 0} (P : A → Type 0) (z : A) (xs : List A) → ((i : ℕ) → i < length xs → P (get_or xs i z)) → Each P xs
each_of P z [] f = tt
each_of P z (x ∷ xs) f = (f 0 (omega arith), each_of P z xs (λ i h. f (suc i) (omega arith)))

pub each_at : {A : Type 0} (P : A → Type 0) (z : A) (xs : List A) → Each P xs → (i : ℕ) → i < length xs → P (get_or xs i z)
each_at P z [] f i h = absurd (omega arith)
each_at P z (x ∷ xs) f zero h = f.0
each_at P z (x ∷ xs) f (suc i) h = each_at P z xs f.1 i (omega arith)

pub each_append : {A : Type 0} (P : A → Type 0) (xs ys : List A) → Each P xs → Each P ys → Each P (xs ++ ys)
each_append P [] ys f g = g
each_append P (x ∷ xs) ys f g = (f.0, each_append P xs ys f.1 g)

module _ (d : Description) where
  -- ---- Trees.

  pub record Trees (at end roots : ℕ) : Type 0 where
    pub many : ℕ
    pub ends : at + many ≡ end
    pub sane : (m : ℕ) → at ≤ m → m < end → Sane d m (node_at d m)
    pub few : many ≤ node_size * count (counts d) at many
    pub each : roots ≤ count (counts d) at many
    -- a record's tree leaves at least one to each other root
    pub deep : (m : ℕ) → at ≤ m → m < end → depth_at d m + 2 * roots ≤ 2 * count (counts d) at many + 1

  pub trees-cover : (at : ℕ) (rs : List ℕ) (end : ℕ) → trees_end d at rs ≡ some end → Each (Own d) rs → Trees at end (length rs)
  unfolding trees_end count
  trees-cover at [] end e o =
      let z : at ≡ end = cc in
      record { many = 0; ends = omega arith; sane = λ m l r. absurd (omega arith); few = omega arith; each = omega arith; deep = λ m l r. absurd (omega arith) }
  trees-cover at (r ∷ rs) end e o =
      let t = tree-first d at r rs end e in
      let y = o.0 at t.start in
      let rest = trees-cover (r + 1) rs end t.rest o.1 in
      let f = y.fewer refl in
      let g : at + y.many ≡ r + 1 = omega (arith, y.ends) in
      let c : count (counts d) at (y.many + rest.many) ≡ count (counts d) at y.many + count (counts d) (r + 1) rest.many = count_add (counts d) at y.many rest.many ∙ rw g in
      record {
        many = y.many + rest.many;
        ends = omega (arith, rest.ends);
        sane = λ m l q. split (λ k. Sane d k (node_at d k)) y.sane rest.sane m l q (ltb m (r + 1)) refl;
        few = omega (arith, c, rest.few);
        each = omega (arith, c, rest.each);
        deep = λ m l q. split (λ k. depth_at d k + 2 * suc (length rs) ≤ 2 * count (counts d) at (y.many + rest.many) + 1)
            (λ k i j. omega (arith, c, y.under k i j, y.deeper refl, rest.each)) (λ k i j. omega (arith, c, rest.deep k i j)) m l q (ltb m (r + 1)) refl;
      }
    where
      split : (P : ℕ → Type 0) → ((m : ℕ) → at ≤ m → m ≤ r → P m) → ((m : ℕ) → r + 1 ≤ m → m < end → P m) → (m : ℕ) → at ≤ m → m < end → (b : Bool) → ltb m (r + 1) ≡ b → P m
      split P f g m l q true t = f m l (omega (arith, ltb-true m (r + 1) t))
      split P f g m l q false t = g m (ltb-false m (r + 1) t) q

  -- ---- Roots.

  -- A computed terminal's expression is a root.
  abbrev pub Computed : Facility → Type 0
  Computed f = D.is_computed f.kind ≡ true → Own d f.expression

  root-own : (f : Facility) (k : Kind) → (D.is_computed k ≡ true → Own d f.expression) → Each (Own d) (function_root d f k)
  root-own f register h = tt
  root-own f sequencing h = tt
  root-own f memory h = tt
  root-own f plain h = tt
  root-own f input h = tt
  root-own f computed h = (h refl, tt)

  pub facility-own : (fs : List Facility) → Each Computed fs → Each (Own d) (facility_roots d fs)
  unfolding facility_roots
  facility-own [] h = tt
  facility-own (f ∷ fs) h = each_append (Own d) (function_root d f f.kind) (facility_roots d fs) (root-own f f.kind h.0) (facility-own fs h.1)

  action-own : (end : ℕ) (a : Action) → SaneAct d end a → Each (Own d) (action_roots d a)
  action-own end (D.store k l r) s = (s.1, (s.2, tt))
  action-own end (D.store_pair k l m r) s = (s.1, (s.2, (s.3, tt)))
  action-own end (D.set l) s = (s, tt)
  action-own end (D.perform o) s = tt
  action-own end (D.goto n) s = tt
  action-own end (D.call n) s = tt
  action-own end D.return s = tt
  action-own end (D.when c x) s = (s.0, tt)
  action-own end (D.choose c n x) s = (s.0, tt)
  action-own end (D.arm x) s = tt
  action-own end D.Action.broken s = tt

  run-own : (end k i : ℕ) → ((j : ℕ) → i ≤ j → j < i + k → SaneAct d end (action_at d j)) → Each (Own d) (run_roots d k i)
  unfolding run_roots
  run-own end zero i f = tt
  run-own end (suc k) i f =
      each_append (Own d) (action_roots d (action_at d i)) (run_roots d k (suc i)) (action-own end (action_at d i) (f i (omega arith) (omega arith)))
      (run-own end k (suc i) (λ j l r. f j (omega arith) (omega arith)))

  -- ---- References on the left are roots.

  abbrev pub lefts : ℕ → ℕ
  lefts n = left_count (action_at d n)

  action-roots : (a : Action) → left_count a ≤ length (action_roots d a)
  action-roots (D.store k l r) = omega arith
  action-roots (D.store_pair k l m r) = omega arith
  action-roots (D.set l) = omega arith
  action-roots (D.perform o) = omega arith
  action-roots (D.goto s) = omega arith
  action-roots (D.call s) = omega arith
  action-roots D.return = omega arith
  action-roots (D.when c x) = omega arith
  action-roots (D.choose c n x) = omega arith
  action-roots (D.arm x) = omega arith
  action-roots D.Action.broken = omega arith

  run-roots : (k i : ℕ) → count lefts i k ≤ length (run_roots d k i)
  unfolding count run_roots
  run-roots zero i = omega arith
  run-roots (suc k) i = omega (arith, action-roots (action_at d i), run-roots k (suc i), length-append (action_roots d (action_at d i)) (run_roots d k (suc i)))

  pub lefts-most : (a : Action) → left_count a ≤ 2 * action_count a
  lefts-most (D.store k l r) = omega arith
  lefts-most (D.store_pair k l m r) = omega arith
  lefts-most (D.set l) = omega arith
  lefts-most (D.perform o) = omega arith
  lefts-most (D.goto s) = omega arith
  lefts-most (D.call s) = omega arith
  lefts-most D.return = omega arith
  lefts-most (D.when c x) = omega arith
  lefts-most (D.choose c n x) = omega arith
  lefts-most (D.arm x) = omega arith
  lefts-most D.Action.broken = omega arith

  -- ---- Runs.

  -- A run within the actions is sane.
  abbrev pub Sound : ℕ → Run → Type 0
  Sound end r = r.first + r.count ≤ end → ((j : ℕ) → r.first ≤ j → j < r.first + r.count → SaneAct d end (action_at d j)) × (r.count ≤ 2 * count (acts d) r.first r.count)

  abbrev pub Inside : ℕ → Run → Type 0
  Inside end r = r.first + r.count ≤ end

  -- What runs one after the other from `at` to `to` come to, with their roots.
  pub record Covered (end at to : ℕ) (roots : List ℕ) (extra : ℕ) : Type 0 where
    pub many : ℕ
    pub ends : at + many ≡ to
    pub sane : (j : ℕ) → at ≤ j → j < to → SaneAct d end (action_at d j)
    pub few : many ≤ 2 * count (acts d) at many
    pub own : Each (Own d) roots
    pub lefts_in : count lefts at many + extra ≤ length roots

  nothing : (end at : ℕ) → Covered end at at [] 0
  unfolding count
  nothing end at = record { many = 0; ends = omega arith; sane = λ j l r. absurd (omega arith); few = omega arith; own = tt; lefts_in = omega arith }

  -- A run, roots of its own before it, and the rest.
  one_more : (end at to : ℕ) (r : Run) (values rest : List ℕ) (extra : ℕ) → r.first ≡ at → to ≤ end → Sound end r → Each (Own d) values
      → Covered end (at + r.count) to rest extra → Covered end at to (values ++ (run_roots d r.count r.first ++ rest)) (length values + extra)
  one_more end at to r values rest extra f le s v y =
      let run = s (omega (arith, y.ends)) in
      let c = count_add (acts d) at r.count y.many in
      let l = count_add lefts at r.count y.many in
      let few : r.count ≤ 2 * count (acts d) at r.count = rw f at run.1 in
      let roots : count lefts at r.count ≤ length (run_roots d r.count r.first) = rw (← f) (run-roots r.count r.first) in
      record {
        many = r.count + y.many;
        ends = omega (arith, y.ends);
        sane = λ j p q. split run.0 y.sane j p q (ltb j (at + r.count)) refl;
        few = omega (arith, c, y.few);
        own = each_append (Own d) values _ v (each_append (Own d) (run_roots d r.count r.first) rest (run-own end r.count r.first run.0) y.own);
        lefts_in = omega (arith, l, roots, y.lefts_in, length-append values (run_roots d r.count r.first ++ rest), length-append (run_roots d r.count r.first) rest);
      }
    where
      split : ((j : ℕ) → r.first ≤ j → j < r.first + r.count → SaneAct d end (action_at d j)) → ((j : ℕ) → at + r.count ≤ j → j < to → SaneAct d end (action_at d j))
          → (j : ℕ) → at ≤ j → j < to → (b : Bool) → ltb j (at + r.count) ≡ b → SaneAct d end (action_at d j)
      split g h j p q true t = g j (omega arith) (omega (arith, ltb-true j (at + r.count) t))
      split g h j p q false t = h j (ltb-false j (at + r.count) t) q

  pub record Step (first at : ℕ) (rest : Option ℕ) (to : ℕ) : Type 0 where
    pub begins : first ≡ at
    pub goes_on : rest ≡ some to

  step : (first at : ℕ) (rest : Option ℕ) (to : ℕ) (b : Bool) → eqb first at ≡ b → cond b rest none ≡ some to → Step first at rest to
  step first at rest to true q e = record { begins = eqb-true first at q; goes_on = e }
  step first at rest to false q e = none-some e

  pub operations-cover : (end at to : ℕ) (os : List Operation) → to ≤ end → operations_end d at os ≡ some to → Each (λ o. Sound end o.body) os
      → Covered end at to (operation_roots d os) 0 × Each (λ o. Inside to o.body) os
  unfolding operations_end operation_roots
  operations-cover end at to [] le e s = (subst (λ (k : ℕ). Covered end at k [] 0) (let z : at ≡ to = cc in z) (nothing end at), tt)
  operations-cover end at to (o ∷ os) le e s =
      let t = step o.body.first at (operations_end d (at + o.body.count) os) to (eqb o.body.first at) refl e in
      let y = operations-cover end (at + o.body.count) to os le t.goes_on s.1 in
      (one_more end at to o.body [] (operation_roots d os) 0 t.begins le s.0 tt y.0, (omega (arith, t.begins, y.0.ends), y.1))

  pub states-cover : (end at to : ℕ) (ss : List State) → to ≤ end → states_end d at ss ≡ some to → Each (λ x. Sound end x.actions) ss → Each (λ x. Each (Own d) (value_root d x.value)) ss
      → Covered end at to (state_roots d ss) (total value_count ss) × Each (λ x. Inside to x.actions) ss
  unfolding states_end state_roots total
  states-cover end at to [] le e s v = (subst (λ (k : ℕ). Covered end at k [] 0) (let z : at ≡ to = cc in z) (nothing end at), tt)
  states-cover end at to (x ∷ ss) le e s v =
      let t = step x.actions.first at (states_end d (at + x.actions.count) ss) to (eqb x.actions.first at) refl e in
      let y = states-cover end (at + x.actions.count) to ss le t.goes_on s.1 v.1 in (
        subst (λ (k : ℕ). Covered end at to (value_root d x.value ++ (run_roots d x.actions.count x.actions.first ++ state_roots d ss)) (k + total value_count ss)) (values x.value x refl)
            (one_more end at to x.actions (value_root d x.value) (state_roots d ss) (total value_count ss) t.begins le s.0 v.0 y.0),
        (omega (arith, t.begins, y.0.ends), y.1),
      )
    where
      values : (v : Option ℕ) (y : State) → y.value ≡ v → length (value_root d y.value) ≡ value_count y
      values none y q = rw q
      values (some n) y q = rw q

-- A description in legal form is in range, record by record.
use Rattle.std.specs.Prelude.{Bool, List, [], ◌∷◌, ◌++◌, ◌≡◌, refl, ℕ, zero, suc, ◌+◌, ◌*◌, ◌≤◌, ◌<◌, ltb, get_or}
use Rattle.std.proofs.Math.Bool.{true, false}
use Rattle.std.proofs.Math.Option.{Option, none, some}
use Rattle.std.proofs.Common.{arith, ltb-false, ltb-true}
use Rattle.std.proofs.Math.ListN.{length, length-append}
use Rattle.language.specs.Canonical.{label_right, name_right}
use Rattle.language.specs.Description as D
use Rattle.language.specs.Description.{Action, Description, Facility, Node, Operation, State, action_at, facility_at, is_computed, no_facility, no_run, node_at, operation_at, state_at}
use Rattle.language.specs.Encode.{concat, name_bytes}
use Rattle.language.specs.Image.{legal_form}
use Rattle.language.specs.Order.{action_roots, facility_roots, function_root, operation_roots, run_roots, state_roots, value_root}
use Rattle.language.specs.Tree.{Kind, computed, input, memory, plain, register, sequencing}
use Rattle.about_running.specs.LegalForm.{legal, trees-so}
use Rattle.about_running.specs.Ordered.{InOrder, in_order}
use Rattle.image_records.proofs.ActionBack as A
use Rattle.image_records.proofs.NodeBack.{Half}
use Rattle.image_sections.proofs.DeclarationBack.{FacilityFits, ValueFits}
use Rattle.about_images.specs.Back.{InRange, NodeInRange}
use Rattle.about_images.specs.Names.{names-length}
use Rattle.about_images.specs.Whole.{encode-long}
use Rattle.about_images.specs.Acts.{SaneAct}
use Rattle.about_images.specs.Covered.{Each, Inside, each_at}
use Rattle.about_images.specs.Legal.{Plain, all-at, before-end, end, facility-names-so, few-facilities, few-operations, few-records, few-states, label-short, labels-so, middle, name-short, operation-names-so, operations-all, roomy, roots, shapes-at, shapes-so, states-all, total-few, trees-all}
use Rattle.about_images.specs.Trees.{Sane}

-- ---- Sane records of few are in range.

node-range : (d : Description) (n : ℕ) (x : Node) → n < 65535 → Sane d n x → NodeInRange d n x
node-range d n (D.constant v) h s = s
node-range d n (D.more m) h s = s
node-range d n (D.whole f) h s = s
node-range d n (D.one f e) h s = (s.0, omega (arith, s.1))
node-range d n (D.part f b) h s = s
node-range d n (D.two f e g) h s = (s.0, omega (arith, s.1), omega (arith, s.2))
node-range d n (D.word_part f e b) h s = (s.0, omega (arith, s.1), s.2, s.3)
node-range d n (D.binary k a b) h s = (s.0, omega (arith, s.1), omega (arith, s.2))
node-range d n (D.prefix k a) h s = (s.0, omega (arith, s.1))
node-range d n (D.cut k a c) h s = (s.0, omega (arith, s.1), s.2)
node-range d n (D.first_arm e) h s = omega arith
node-range d n (D.next_arm a e) h s = (omega (arith, s.0), omega (arith, s.1))
node-range d n (D.choice e a m) h s = (omega (arith, s.0), omega (arith, s.1), s.2)
node-range d n D.Node.broken h s = tt

action-range : (d : Description) (at last end : ℕ) (a : Action) → last ≤ 65534 → end ≤ 65534 → SaneAct d end a → InOrder d at last (action_roots d a) → A.Fits a
action-range d at last end (D.store k l r) h g s o = (s.0, omega (arith, o.0.3), omega (arith, o.1.0.3))
action-range d at last end (D.store_pair k l m r) h g s o = (s.0, omega (arith, o.0.3), omega (arith, o.1.0.3), omega (arith, o.1.1.0.3))
action-range d at last end (D.set l) h g s o = omega (arith, o.0.3)
action-range d at last end (D.perform n) h g s o = s
action-range d at last end (D.goto n) h g s o = s
action-range d at last end (D.call n) h g s o = s
action-range d at last end D.return h g s o = tt
action-range d at last end (D.when c x) h g s o = (omega (arith, o.0.3), omega (arith, s.1))
action-range d at last end (D.choose c n x) h g s o = (omega (arith, o.0.3), s.1, omega (arith, s.2))
action-range d at last end (D.arm x) h g s o = omega arith
action-range d at last end D.Action.broken h g s o = tt

-- ---- Roots stand before the end.

abbrev Below : ℕ → List ℕ → Type 0
Below m = Each (λ r. r < m)

roots-below : (d : Description) (at m : ℕ) (rs : List ℕ) → InOrder d at m rs → Below m rs
roots-below d at m [] o = tt
roots-below d at m (r ∷ rs) o = (o.0.3, roots-below d at m rs o.1)

below_left : (m : ℕ) (xs ys : List ℕ) → Below m (xs ++ ys) → Below m xs
below_left m [] ys f = tt
below_left m (x ∷ xs) ys f = (f.0, below_left m xs ys f.1)

below_right : (m : ℕ) (xs ys : List ℕ) → Below m (xs ++ ys) → Below m ys
below_right m [] ys f = f
below_right m (x ∷ xs) ys f = below_right m xs ys f.1

root_below : (d : Description) (m : ℕ) (f : Facility) (k : Kind) → Below m (function_root d f k) → is_computed k ≡ true → f.expression < m
root_below d m f register b e = absurd (let z : ◌≡◌ {A = ℕ} 0 1 = cc in omega arith)
root_below d m f sequencing b e = absurd (let z : ◌≡◌ {A = ℕ} 0 1 = cc in omega arith)
root_below d m f memory b e = absurd (let z : ◌≡◌ {A = ℕ} 0 1 = cc in omega arith)
root_below d m f plain b e = absurd (let z : ◌≡◌ {A = ℕ} 0 1 = cc in omega arith)
root_below d m f input b e = absurd (let z : ◌≡◌ {A = ℕ} 0 1 = cc in omega arith)
root_below d m f computed b e = b.0

facility-below : (d : Description) (m : ℕ) (fs : List Facility) → Below m (facility_roots d fs) → (i : ℕ) → i < length fs → is_computed (get_or fs i no_facility).kind ≡ true
    → (get_or fs i no_facility).expression < m
unfolding facility_roots
facility-below d m [] b i h e = absurd (omega arith)
facility-below d m (f ∷ fs) b zero h e = root_below d m f f.kind (below_left m (function_root d f f.kind) (facility_roots d fs) b) e
facility-below d m (f ∷ fs) b (suc i) h e = facility-below d m fs (below_right m (function_root d f f.kind) (facility_roots d fs) b) i (omega arith) e

abbrev nobody : State
nobody = record { name = []; value = none; actions = no_run }

value-below : (d : Description) (m : ℕ) (v : Option ℕ) → m ≤ 65534 → Below m (value_root d v) → ValueFits v
value-below d m none h b = tt
value-below d m (some n) h b = omega (arith, b.0)

state-below : (d : Description) (m : ℕ) (ss : List State) → m ≤ 65534 → Below m (state_roots d ss) → (i : ℕ) → i < length ss → ValueFits (get_or ss i nobody).value
unfolding state_roots
state-below d m [] g b i h = absurd (omega arith)
state-below d m (x ∷ ss) g b zero h = value-below d m x.value g (below_left m (value_root d x.value) _ b)
state-below d m (x ∷ ss) g b (suc i) h =
    state-below d m ss g (below_right m (run_roots d x.actions.count x.actions.first) (state_roots d ss) (below_right m (value_root d x.value) _ b)) i (omega arith)

-- ---- The whole.

module _ (d : Description) (h : legal_form d ≡ true) (plain-ones : Plain d) where
  abbrev last : ℕ
  last = length d.expressions

  all-below : Below last (roots d h)
  all-below = roots-below d 0 last (roots d h) (in_order d 0 (roots d h) last (trees-so d h))

  facilities-below : Below last (facility_roots d d.facilities)
  facilities-below = below_left last (facility_roots d d.facilities) _ all-below

  states-below : Below last (state_roots d d.states)
  states-below = below_right last (operation_roots d d.operations) _ (below_right last (facility_roots d d.facilities) _ all-below)

  expression-so : (n : ℕ) → n < length d.facilities → (b : Bool) → is_computed (facility_at d n).kind ≡ b → Half (facility_at d n).expression
  unfolding facility_at
  expression-so n l true e = omega (arith, facility-below d last d.facilities facilities-below n l e, (few-records d h).0)
  expression-so n l false e = omega (arith, plain-ones n l e)

  facility-name : (n : ℕ) → n < length d.facilities → length (facility_at d n).name < 256
  unfolding facility_at
  facility-name n l = name-short (facility_at d n).name (all-at (λ f. name_right f.name) no_facility d.facilities (facility-names-so d h) n l)

  facility-fits : (n : ℕ) → n < length d.facilities → FacilityFits (facility_at d n)
  unfolding facility_at
  facility-fits n l =
      let r = roomy d h n l in
      record {
        dimensions = shapes-at 0 d.facilities (shapes-so d h) n l;
        words = r.words;
        bits = r.bits;
        expression = expression-so n l (is_computed (facility_at d n).kind) refl;
        plain = plain-ones n l;
      }

  operation-name : (n : ℕ) → n < length d.operations → length (operation_at d n).name < 256
  unfolding operation_at
  operation-name n l = name-short (operation_at d n).name (all-at (λ o. name_right o.name) (record { name = []; body = no_run }) d.operations (operation-names-so d h) n l)

  operation-inside : (n : ℕ) → n < length d.operations → (operation_at d n).body.first + (operation_at d n).body.count ≤ 65534
  unfolding operation_at
  operation-inside n l =
      omega (arith, each_at (λ o. Inside d (middle d h) o.body) (record { name = []; body = no_run }) d.operations (operations-all d h).1 n l, before-end d h, (few-records d h).1)

  state-name : (n : ℕ) → n < length d.states → length (state_at d n).name < 256
  unfolding state_at
  state-name n l = label-short (state_at d n).name (state_at d n).value (all-at (λ s. label_right s.name s.value) nobody d.states (labels-so d h) n l)

  state-inside : (n : ℕ) → n < length d.states → (state_at d n).actions.first + (state_at d n).actions.count ≤ 65534
  unfolding state_at
  state-inside n l = omega (arith, each_at (λ x. Inside d (end d h) x.actions) nobody d.states (states-all d h).1 n l, (few-records d h).1)

  state-value : (n : ℕ) → n < length d.states → ValueFits (state_at d n).value
  unfolding state_at
  state-value n l = state-below d last d.states (omega (arith, (few-records d h).0)) states-below n l

  action-fits : (n : ℕ) → n < length d.actions → A.Fits (action_at d n)
  action-fits n l =
      let o = (operations-all d h).0 in
      let s = (states-all d h).0 in
      let L = legal d h in
      action-range d L.base last (end d h) (action_at d n) (omega (arith, (few-records d h).0)) (omega (arith, (few-records d h).1)) (split o.sane s.sane (ltb n (middle d h)) refl) (L.actions-order n)
    where
      split : ((j : ℕ) → 0 ≤ j → j < middle d h → SaneAct d (end d h) (action_at d j)) → ((j : ℕ) → middle d h ≤ j → j < end d h → SaneAct d (end d h) (action_at d j))
          → (b : Bool) → ltb n (middle d h) ≡ b → SaneAct d (end d h) (action_at d n)
      split f g true e = f n (omega arith) (ltb-true n (middle d h) e)
      split f g false e = g n (ltb-false n (middle d h) e) l

  names-few : length (name_bytes d) ≤ 255 * 640
  unfolding name_bytes facility_at operation_at state_at
  names-few =
      let f = total-few (λ (f : Facility). length f.name) 255 no_facility d.facilities (λ i l. omega (arith, facility-name i l)) in
      let o = total-few (λ (o : Operation). length o.name) 255 (record { name = []; body = no_run }) d.operations (λ i l. omega (arith, operation-name i l)) in
      let s = total-few (λ (s : State). length s.name) 255 nobody d.states (λ i l. omega (arith, state-name i l)) in
      let a = length-append (concat (λ (f : Facility). f.name) d.facilities) (concat (λ (o : Operation). o.name) d.operations ++ concat (λ (s : State). s.name) d.states) in
      let b = length-append (concat (λ (o : Operation). o.name) d.operations) (concat (λ (s : State). s.name) d.states) in
      omega (arith, f, o, s, a, b, names-length (λ (f : Facility). f.name) d.facilities, names-length (λ (o : Operation). o.name) d.operations, names-length (λ (s : State). s.name) d.states, few-facilities d h, few-operations d h, few-states d h)

  -- A description in legal form, in which only computed terminals have expressions, is in range.
  pub in-range : InRange d
  in-range = record {
    facilities = λ n l. record { name = facility-name n l; fits = facility-fits n l };
    operations = λ n l. record { name = operation-name n l; first = omega (arith, operation-inside n l); count = omega (arith, operation-inside n l) };
    expressions = λ n l. node-range d n (node_at d n) (omega (arith, (few-records d h).0)) ((trees-all d h).sane n (omega arith) l);
    actions = action-fits;
    states = λ n l. record { name = state-name n l; value = state-value n l; first = omega (arith, state-inside n l); count = omega (arith, state-inside n l) };
    whole = omega (arith, encode-long d, names-few, few-facilities d h, few-operations d h, few-states d h, (few-records d h).0, (few-records d h).1);
  }

-- What it is for a record to be settled (proofs/Settled.antt): judged fine, and in order behind the computed terminals that it may name; and how a reference is judged. Assumes nothing.
use Rattle.std.specs.Prelude.{Bool, false, ◌≡◌, ℕ, ◌≤◌, ◌<◌, ltb}
use Rattle.std.proofs.Math.Bool.{true}
use Rattle.std.proofs.Math.Option.{none, some}
use Rattle.std.proofs.Math.Path.{refl, ap}
use Rattle.std.proofs.Common.{subst, ◌∙◌, ltb-false, ltb-true}
use native.Mathlib.Omega.{arith}
use Rattle.std.proofs.Math.ListN.{get_or-eq_default, length}
use Rattle.language.specs.Description as D
use Rattle.language.specs.Description.{Description, Facility, Node, NodePlaces, facility_at, is_computed, no_facility, no_places, node_at, node_place}
use Rattle.language.specs.Expressions.{judge_at, judge_below, judge_node, own_work, terminal_below}
use Rattle.language.specs.Judging.{Judged}
use Rattle.language.specs.ReferenceRules.{reference_judged}
use Rattle.language.specs.References as R
use Rattle.language.specs.References.{Reference, Subscripts, reference_of}
use Rattle.about_rules.specs.ActionsRight as A
use Rattle.about_rules.specs.ActionsRight.{RefersTo}
use Rattle.about_rules.proofs.LongIsFine.{judged}
use Rattle.about_calls.specs.PartsStand.{Proper}

-- ---- References.

-- The record of a reference.
abbrev pub node_with : ℕ → Subscripts → Node
node_with f R.whole = D.whole f
node_with f (R.one e) = D.one f e
node_with f (R.part x) = D.part f x
node_with f (R.two e g) = D.two f e g
node_with f (R.word_part e x) = D.word_part f e x

no-reference : {A : Type 0} {r : Reference} → none ≡ some r → A
no-reference e = absurd (let z : ◌≡◌ {A = ℕ} 0 1 = cc in omega arith)

with-so : (nd : Node) (f : ℕ) (u : Subscripts) {r : Reference} → nd ≡ node_with f u → R.refer_to f u ≡ some r → nd ≡ node_with r.facility r.subscripts
with-so nd f u {r} q e = let z : record { facility = f; subscripts = u } ≡ r = cc in subst (λ (x : Reference). nd ≡ node_with x.facility x.subscripts) z q

pub reference-node : (nd : Node) {r : Reference} → reference_of nd ≡ some r → nd ≡ node_with r.facility r.subscripts
reference-node (D.constant v) e = no-reference e
reference-node (D.more n) e = no-reference e
reference-node (D.whole f) e = with-so (D.whole f) f R.whole refl e
reference-node (D.one f a) e = with-so (D.one f a) f (R.one a) refl e
reference-node (D.part f x) e = with-so (D.part f x) f (R.part x) refl e
reference-node (D.two f a g) e = with-so (D.two f a g) f (R.two a g) refl e
reference-node (D.word_part f a x) e = with-so (D.word_part f a x) f (R.word_part a x) refl e
reference-node (D.binary k a b) e = no-reference e
reference-node (D.prefix k a) e = no-reference e
reference-node (D.cut k a c) e = no-reference e
reference-node (D.first_arm a) e = no-reference e
reference-node (D.next_arm a b) e = no-reference e
reference-node (D.choice a b n) e = no-reference e
reference-node D.Node.broken e = no-reference e

-- The subscripts of a reference to the facility f.
pub subscripts-of : {nd : Node} {f : ℕ} → RefersTo nd f → (u : Subscripts) × (reference_of nd ≡ R.refer_to f u)
subscripts-of A.whole = (R.whole, refl)
subscripts-of (A.one {e = e}) = (R.one e, refl)
subscripts-of (A.part {b = x}) = (R.part x, refl)
subscripts-of (A.two {e = e} {g = g}) = (R.two e g, refl)
subscripts-of (A.word-part {e = e} {b = x}) = (R.word_part e x, refl)

module _ (d : Description) (known n : ℕ) where
  abbrev terminals : ℕ → Judged
  terminals = terminal_below d no_places known

  abbrev ev : ℕ → Judged
  ev = judge_below d no_places terminals known n

  with-judged : (at : NodePlaces) (f : ℕ) (u : Subscripts) → judge_node d no_places terminals known ev at (node_with f u) ≡ reference_judged d no_places terminals ev own_work known (record { facility = f; subscripts = u }) at
  unfolding judge_node
  with-judged at f R.whole = refl
  with-judged at f (R.one e) = refl
  with-judged at f (R.part x) = refl
  with-judged at f (R.two e g) = refl
  with-judged at f (R.word_part e x) = refl

  -- A reference is judged as an operand by the rules of references.
  pub operand-judged : {r : Reference} → reference_of (node_at d n) ≡ some r → judged d no_places known n ≡ reference_judged d no_places terminals ev own_work known r (node_place no_places n)
  unfolding judge_at
  operand-judged {r} q = ap (judge_node d no_places terminals known ev (node_place no_places n)) (reference-node (node_at d n) q) ∙ with-judged (node_place no_places n) r.facility r.subscripts

-- ---- Every record that a run can work out.

-- Judged fine where the first `known` facilities may be named, and in a tree behind the computed ones among them.
pub record Settled (d : Description) (n : ℕ) : Type 0 where
  pub known : ℕ
  pub base : ℕ
  pub within : known ≤ length d.facilities
  pub before : (f : ℕ) → f < known → is_computed (facility_at d f).kind ≡ true → (facility_at d f).expression < base
  pub proper : Proper d known base n

-- A computed terminal is there: past the last facility none is.
pub computed-in : (d : Description) (f : ℕ) → is_computed (facility_at d f).kind ≡ true → f < length d.facilities
unfolding facility_at
computed-in d f c = go (ltb f (length d.facilities)) refl
  where
    go : (b : Bool) → ltb f (length d.facilities) ≡ b → f < length d.facilities
    go true q = ltb-true f _ q
    go false q =
        let z = ap (λ (x : Facility). is_computed x.kind) (get_or-eq_default d.facilities no_facility (ltb-false f _ q)) in
        absurd (let y : ◌≡◌ {A = ℕ} 0 1 = cc in omega arith)

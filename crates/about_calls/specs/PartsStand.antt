-- A record that is judged fine and whose tree stands in order has parts of which the same holds. Assumes nothing.
use Rattle.std.proofs.Math.Option.{some}
use Rattle.std.specs.Prelude.{◌≡◌, ℕ, ◌≤◌, ◌<◌}
use Rattle.std.proofs.Common.{sym, ◌∙◌, arith}
use Rattle.std.proofs.Math.Path.{subst}
use Rattle.language.specs.Description.{Description, Node, no_places, node_at, node_place}
use Rattle.language.specs.Expressions.{judge_at, judge_below, judge_node, own_work, terminal_below}
use Rattle.language.specs.Judging.{Judged, Worth, arm_list, fine, proper}
use Rattle.language.specs.Meaning as M
use Rattle.language.specs.Order.{just_before, start_at, start_below, start_node, two_before}
use Rattle.language.specs.ReferenceRules.{reference_judged, subscripts_judged}
use Rattle.language.specs.References as R
use Rattle.language.specs.References.{Subscripts}
use Rattle.language.specs.Words.{Position}
use Rattle.language.specs.declared.stops.Stop.TheVariants.{OutsideBounds}
use Rattle.about_running.specs.Finds.{Refers, reference-fine}
use Rattle.about_running.specs.Judged.{arms-fine, both-fine, given-fine, proper-fine}
use Rattle.about_running.specs.Starts.{one-before, two-parts}
use Rattle.about_rules.proofs.LongIsFine.{judge-lt, judged}
use Rattle.about_calls.specs.WorkedOut as W
use Rattle.about_calls.specs.WorkedOut.{Arm, PartOf}

module _ (d : Description) (known base : ℕ) where
  -- The record n: judged fine with this worth, and its tree begins at `base` or after it.
  pub record Stands (n : ℕ) (w : Worth) : Type 0 where
    pub same : judged d no_places known n ≡ fine w
    pub start : ℕ
    pub starts : start_at d n ≡ some start
    pub low : base ≤ start

  -- An expression of which that holds.
  pub record Proper (n : ℕ) : Type 0 where
    pub worth : Worth
    pub stands : Stands n worth
    pub none : worth.arms ≡ 0

  module _ (n : ℕ) where
    abbrev pub ev : ℕ → Judged
    ev = judge_below d no_places (terminal_below d no_places known) known n

    -- A part as an expression, and as the last of a list of arms.
    abbrev pub proper_of : ℕ → Judged
    proper_of a = proper (node_place no_places a).at (ev a)

    abbrev arms_of : ℕ → Judged
    arms_of a = arm_list (node_place no_places n).at (ev a)

    -- What holds of a record, read off the node that stands there.
    pub record At (nd : Node) (w : Worth) : Type 0 where
      pub fine-so : judge_node d no_places (terminal_below d no_places known) known ev (node_place no_places n) nd ≡ fine w
      pub start : ℕ
      pub starts : start_node d (start_below d n) n nd ≡ some start
      pub low : base ≤ start

    pub at-node : {nd : Node} {w : Worth} → node_at d n ≡ nd → Stands n w → At nd w
    unfolding judge_at start_at
    at-node {w = w} q s = record {
      fine-so = subst (λ (x : Node). judge_node d no_places (terminal_below d no_places known) known ev (node_place no_places n) x ≡ fine w) q s.same;
      start = s.start;
      starts = subst (λ (x : Node). start_node d (start_below d n) n x ≡ some s.start) q s.starts;
      low = s.low;
    }

    -- A part stands before its owner.
    abbrev pub Part : ℕ → Type 0
    Part a = (a < n) × Proper a

    stand-so : {a m : ℕ} {v : Worth} → a < n → start_at d a ≡ some m → base ≤ m → ev a ≡ fine v → Stands a v
    stand-so {a} {m} l t b e = record { same = sym (judge-lt d no_places known n a l) ∙ e; start = m; starts = t; low = b }

    part-so : (q : Position) {a m : ℕ} {v : Worth} → a < n → start_at d a ≡ some m → base ≤ m → proper q (ev a) ≡ fine v → Part a
    part-so q {a} {v = v} l t b e = let y = proper-fine q (ev a) e in (l, record { worth = v; stands = stand-so l t b y.same; none = y.arms })

    -- The only part of a record, and the left and the right one of two.
    only_part : (q : Position) {a m : ℕ} {v : Worth} → just_before d (start_below d n) a n ≡ some m → base ≤ m → proper q (ev a) ≡ fine v → Part a
    only_part q {a} {m} t b e = let y = one-before d a n m t in part-so q (omega (arith, y.last)) y.start b e

    left-part : (q : Position) (a c : ℕ) {m : ℕ} {v : Worth} → two_before d (start_below d n) a c n ≡ some m → base ≤ m → proper q (ev a) ≡ fine v → Part a
    left-part q a c {m} t b e = let y = two-parts d a c n m t in part-so q y.left_below y.left b e

    right-part : (q : Position) (a c : ℕ) {m : ℕ} {v : Worth} → two_before d (start_below d n) a c n ≡ some m → base ≤ m → proper q (ev c) ≡ fine v → Part c
    right-part q a c {m} t b e = let y = two-parts d a c n m t in part-so q y.right-below y.right (omega (arith, y.after)) e

    abbrev Refers-to : ℕ → Subscripts → Worth → Type 0
    Refers-to f u w = Refers d no_places (terminal_below d no_places known) ev (λ e. M.Answer.stops OutsideBounds) (λ e. ⊥) (λ e w q h. absurd q) known (record { facility = f; subscripts = u }) (node_place no_places n) w

    refers : (f : ℕ) (u : Subscripts) {w : Worth} → reference_judged d no_places (terminal_below d no_places known) ev own_work known (record { facility = f; subscripts = u }) (node_place no_places n) ≡ fine w → Refers-to f u w
    refers f u e = reference-fine d no_places (terminal_below d no_places known) ev (λ e. M.Answer.stops OutsideBounds) (λ e. ⊥) (λ e w q h. absurd q) own_work known (record { facility = f; subscripts = u }) (node_place no_places n) e

  -- ---- Arms.

  arm-stands : {a g : ℕ} {w : Worth} → Stands a w → Arm d a g → Part a g
  unfolding judge_node start_node
  arm-stands {a} s (W.first q) = let t = at-node a q s in only_part a _ t.starts t.low (given-fine _ _ t.fine-so).part
  arm-stands {a} s (W.last {b = b} {e = e} q) = let t = at-node a q s in right-part a _ b e t.starts t.low (both-fine (arms_of a b) (proper_of a e) _ t.fine-so).right
  arm-stands {a} s (W.earlier {b = b} {e = e} q h) =
      let t = at-node a q s in
      let y = two-parts d b e a t.start t.starts in
      let z = arm-stands (stand-so a y.left_below y.left t.low (arms-fine _ _ (both-fine (arms_of a b) (proper_of a e) _ t.fine-so).left).same) h in
      (omega (arith, z.0, y.left_below), z.1)

  -- ---- Every part.

  pub part-stands : {n a : ℕ} {w : Worth} → Stands n w → PartOf d n a → Part n a
  unfolding judge_node start_node subscripts_judged
  part-stands {n} s (W.left {a = a} {b = b} q) = let t = at-node n q s in left-part n _ a b t.starts t.low (both-fine (proper_of n a) (proper_of n b) _ t.fine-so).left
  part-stands {n} s (W.right {a = a} {b = b} q) = let t = at-node n q s in right-part n _ a b t.starts t.low (both-fine (proper_of n a) (proper_of n b) _ t.fine-so).right
  part-stands {n} s (W.operand q) = let t = at-node n q s in only_part n _ t.starts t.low (given-fine _ _ t.fine-so).part
  part-stands {n} s (W.source q) = let t = at-node n q s in only_part n _ t.starts t.low (given-fine _ _ t.fine-so).part
  part-stands {n} s (W.subscript {f = f} {e = e} q) =
      let t = at-node n q s in only_part n _ t.starts t.low (refers n f (R.one e) t.fine-so).right.worked
  part-stands {n} s (W.word-of-bit {f = f} {e = e} {g = g} q) =
      let t = at-node n q s in left-part n _ e g t.starts t.low (both-fine (proper_of n e) (proper_of n g) _ (refers n f (R.two e g) t.fine-so).right.worked).left
  part-stands {n} s (W.bit-of-word {f = f} {e = e} {g = g} q) =
      let t = at-node n q s in right-part n _ e g t.starts t.low (both-fine (proper_of n e) (proper_of n g) _ (refers n f (R.two e g) t.fine-so).right.worked).right
  part-stands {n} s (W.word_of_part {f = f} {e = e} {x = x} q) =
      let t = at-node n q s in only_part n _ t.starts t.low (refers n f (R.word_part e x) t.fine-so).right.worked
  part-stands {n} s (W.condition {e = e} {a = a} q) = let t = at-node n q s in left-part n _ e a t.starts t.low (both-fine (proper_of n e) (arms_of n a) _ t.fine-so).left
  part-stands {n} s (W.arm {e = e} {a = a} q h) =
      let t = at-node n q s in
      let y = two-parts d e a n t.start t.starts in
      let z = arm-stands (stand-so n y.right-below y.right (omega (arith, t.low, y.after)) (arms-fine _ _ (both-fine (proper_of n e) (arms_of n a) _ t.fine-so).right).same) h in
      (omega (arith, z.0, y.right-below), z.1)

-- In a description in legal form every record that a run can work out is judged fine and stands in order, behind the computed terminals that it may name. Assumes nothing.
use Rattle.std.specs.Prelude.{◌≡◌, ℕ, suc, ◌≤◌}
use Rattle.std.proofs.Math.Bool.{true}
use Rattle.std.proofs.Math.Option.{some}
use Rattle.std.proofs.Math.Path.{refl}
use Rattle.std.proofs.Common.{subst}
use native.Mathlib.Omega.{arith}
use Rattle.std.proofs.Math.ListN.{length}
use Rattle.language.specs.ActionRules.{operation_judged}
use Rattle.language.specs.Description as D
use Rattle.language.specs.Description.{Action, Description, action_at, facility_at, is_computed, no_places, state_at}
use Rattle.language.specs.Expressions.{terminal_judged}
use Rattle.language.specs.Order.{action_roots, start_at}
use Rattle.about_running.specs.Judged.{proper-fine}
use Rattle.about_running.specs.LegalForm.{Legal}
use Rattle.about_running.specs.Ordered.{InOrder}
use Rattle.about_running.specs.Terminals.{roots}
use Rattle.about_rules.proofs.ActionsJudged.{right-run}
use Rattle.about_rules.specs.ActionsRight.{Has}
use Rattle.about_rules.proofs.FineIsRight.{operations-right}
use Rattle.about_rules.proofs.LongIsFine.{judged, long-is-fine}
use Rattle.about_calls.specs.EveryAction.{Roots, every-action, side-long, value-long}
use Rattle.about_calls.specs.PartsStand.{part-stands}
use Rattle.about_calls.specs.Settled.{Settled, computed-in}
use Rattle.about_calls.specs.WorkedOut as W
use Rattle.about_calls.specs.WorkedOut.{Acts, LeftSide, Valued, WorkedOut}

module _ (d : Description) (L : Legal d) where
  -- The tree of a record stands in order behind those of computed terminals.
  abbrev Ordered : ℕ → Type 0
  Ordered n = (s : ℕ) × (start_at d n ≡ some s) × (L.base ≤ s)

  side-order : (a : Action) (n : ℕ) → InOrder d L.base (length d.expressions) (action_roots d a) → LeftSide a n → Ordered n
  side-order (D.store k l r) n o W.stored = (o.0.0, o.0.1, o.0.2)
  side-order (D.store_pair k l m r) n o W.high = (o.0.0, o.0.1, o.0.2)
  side-order (D.store_pair k l m r) n o W.low = (o.1.0.0, o.1.0.1, o.1.0.2)
  side-order (D.set l) n o W.set = (o.0.0, o.0.1, o.0.2)
  side-order (D.perform _) n o x3 = elim x3 [ ]
  side-order (D.goto _) n o x4 = elim x4 [ ]
  side-order (D.call _) n o x5 = elim x5 [ ]
  side-order D.return n o x5 = elim x5 [ ]
  side-order (D.when _ _) n o x8 = elim x8 [ ]
  side-order (D.choose _ _ _) n o x10 = elim x10 [ ]
  side-order (D.arm _) n o x9 = elim x9 [ ]
  side-order Action.broken n o x9 = elim x9 [ ]

  value-order : (a : Action) (n : ℕ) → InOrder d L.base (length d.expressions) (action_roots d a) → Valued a n → Ordered n
  value-order (D.store k l r) n o W.right = (o.1.0.0, o.1.0.1, o.1.0.2)
  value-order (D.store_pair k l m r) n o W.pair-right = (o.1.1.0.0, o.1.1.0.1, o.1.1.0.2)
  value-order (D.when c x) n o W.when = (o.0.0, o.0.1, o.0.2)
  value-order (D.choose c m x) n o W.choose = (o.0.0, o.0.1, o.0.2)
  value-order (D.set _) n o x3 = elim x3 [ ]
  value-order (D.perform _) n o x4 = elim x4 [ ]
  value-order (D.goto _) n o x5 = elim x5 [ ]
  value-order (D.call _) n o x6 = elim x6 [ ]
  value-order D.return n o x6 = elim x6 [ ]
  value-order (D.arm _) n o x8 = elim x8 [ ]
  value-order Action.broken n o x8 = elim x8 [ ]

  -- What an action of a state or an operation holds.
  pub acts-roots : {i : ℕ} → Acts d i → Roots d i (action_at d i)
  unfolding operation_judged
  acts-roots {i} (W.of-state {s = s} l h) =
      every-action d i (right-run d no_places true (length d.operations) (state_at d s).actions (L.states s l).1.1.run-fine) h.0 h.1
  acts-roots {i} (W.of-operation {o = o} l h) = every-action d i (operations-right d no_places (suc o) o _ (omega arith) (L.operations o l).1).1 h.0 h.1

  -- A record that an action holds may name every facility.
  root-settled : {n l : ℕ} → Ordered n → Has d n l → Settled d n
  unfolding facility_at
  root-settled o h =
      let j = long-is-fine d no_places h in
      record {
        known = length d.facilities;
        base = L.base;
        within = omega arith;
        before = λ f h c. (roots d d.facilities 0 L.base f L.terminals-order h c).end;
        proper = record { worth = _; stands = record { same = j.same; start = o.0; starts = o.1; low = o.2 }; none = refl };
      }

  -- The expression of a computed terminal, only those before it.
  terminal-settled : (f : ℕ) → is_computed (facility_at d f).kind ≡ true → Settled d (facility_at d f).expression
  unfolding facility_at terminal_judged
  terminal-settled f c =
      let h = computed-in d f c in
      let r = roots d d.facilities 0 L.base f L.terminals-order h c in
      let j = L.terminals f h c in
      let y = proper-fine _ (judged d no_places f (facility_at d f).expression) j.1 in
      record {
        known = f;
        base = r.s;
        within = omega arith;
        before = r.earlier;
        proper = record { worth = j.0; stands = record { same = y.same; start = r.s; starts = r.start; low = omega arith }; none = y.arms };
      }

  pub settled : {n : ℕ} → WorkedOut d n → Settled d n
  settled {n} (W.left-side {i = i} a h) = root-settled (side-order (action_at d i) n (L.actions-order i) h) (side-long d i (action_at d i) n (acts-roots a) h).1.1.1
  settled {n} (W.valued {i = i} a h) = root-settled (value-order (action_at d i) n (L.actions-order i) h) (value-long d i (action_at d i) n (acts-roots a) h).1
  settled (W.terminal f c q) = subst (Settled d) q (terminal-settled f c)
  settled (W.part o h) =
      let s = settled o in
      record { known = s.known; base = s.base; within = s.within; before = s.before; proper = (part-stands d s.known s.base s.proper.stands h).1 }

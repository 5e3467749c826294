-- The next state from what the code keeps of a cycle: the same as from all that the cycle did.
use Rattle.std.specs.Prelude.{Bool, true, false, cond, ◌||◌, ◌≡◌, ℕ, suc, ◌+◌, ◌-◌, min, eqb, leb, ltb, get_or, set}
use Rattle.std.proofs.Math.Option.{Option, none, some}
use Rattle.language.specs.Acting as T
use Rattle.language.specs.Step as S
use Rattle.language.specs.declared.stops.Stop.{Stop}
use Rattle.language.specs.declared.stops.Stop.TheVariants.{NoNextState, NothingToReturn, TooManyCalls, TwoNextStates, ValueUnborne}
use Rattle.language.specs.Store.{Held}
use Rattle.language.specs.Value.{bit}
use Rattle.run_stores.specs.Seen.{named, states_seen}
use Rattle.run_stores.specs.declared.doing.Doing.{Doing}
use Rattle.run_next.specs.declared.record.Record.{Record}
use Rattle.language.specs.Tests.{both}

abbrev pub record_meant : Record → S.Record
record_meant r = record { state = r.state; cycle = r.cycle; held = r.held; returns = r.returns }

abbrev pub or_zero : Option ℕ → ℕ
or_zero none = 0
or_zero (some n) = n

abbrev pub is_none : Option ℕ → Bool
is_none none = true
is_none (some n) = false

-- The code's doing g stands for c.
pub record Sees (g : Doing) (c : T.Doing Held) : Type 0 where
  pub gotos : named g.gotos ≡ states_seen c.gotos
  pub returns : g.returns ≡ min c.returns 2
  pub calls : named g.calls ≡ states_seen c.calls
  pub sequenced : g.sequenced ≡ c.sequenced

abbrev pub plain_seen : Doing → ℕ
plain_seen g = g.gotos.count + g.returns + bit g.sequenced

abbrev pub left_seen : ℕ → ℕ → ℕ
left_seen held returns = cond (ltb 0 returns) (held - 1) held

unfoldable pub next_seen : S.Record → Doing → Option ℕ → ℕ
next_seen r g q =
    cond (ltb 0 g.gotos.count) g.gotos.first
    (cond (ltb 0 g.returns) (get_or r.returns (r.held - 1) 0)
    (cond g.sequenced (or_zero q) (r.state + 1)))

-- `states` is how many there are, and q the state whose value the sequencing register has.
unfoldable pub stop_seen : ℕ → S.Record → Doing → Option ℕ → Option Stop
stop_seen states r g q =
    cond (leb 2 (plain_seen g) || leb 2 g.calls.count) (some TwoNextStates)
    (cond (both (ltb 0 g.returns) (eqb r.held 0)) (some NothingToReturn)
    (cond (both g.sequenced (is_none q)) (some ValueUnborne)
    (cond (both (eqb (plain_seen g) 0) (leb states (r.state + 1))) (some NoNextState)
    (cond (both (ltb 0 g.calls.count) (leb 16 (left_seen r.held g.returns))) (some TooManyCalls) none))))

unfoldable pub record_seen : S.Record → Doing → ℕ → S.Record
record_seen r g next =
    cond (ltb 0 g.calls.count)
    (record {
      state = g.calls.first;
      cycle = suc r.cycle;
      held = suc (left_seen r.held g.returns);
      returns = set (cond (ltb 0 g.returns) (set r.returns (r.held - 1) 0) r.returns) (left_seen r.held g.returns) next;
    })
    (record {
      state = next;
      cycle = suc r.cycle;
      held = left_seen r.held g.returns;
      returns = cond (ltb 0 g.returns) (set r.returns (r.held - 1) 0) r.returns;
    })

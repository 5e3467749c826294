use Prim.Native.Nat.{◌-◌}
use Rattle.language.specs.Naming.{Scope}
use Rattle.parse_stores.specs.Actions.{Standing}
use Rattle.parse_states.proofs.BodyLaws.{Here}
use Rattle.parse_states.proofs.bodies.rest.Given as goal

abbrev pub invariant-loop-n : goal.invariant-loop-n
invariant-loop-n l = (sc : Scope) → Standing l.text sc l.n l.initial.next l.initial.state l.initial.state.actions l.initial.work → Here l.text sc l.n l.initial.next l.initial.state l.initial.work l.next l.state l.work

abbrev pub decreases-loop-n : goal.decreases-loop-n
decreases-loop-n l = 2049 - l.state.counted

use Rattle.std.proofs.Common.{length, ◌≤◌}
use Rattle.trace_input.specs.Lines.{held_room}
use Rattle.trace_line.specs.Turns.{Ready, printed_room}
use Rattle.trace.proofs.input.all.Given as goal

abbrev pub invariant-loop : goal.invariant-loop
invariant-loop g l =
    (Ready l.image l.store) × (l.s.held ≤ length l.line) × (held_room ≤ length l.line) × (printed_room ≤ length l.out)

use Rattle.std.proofs.Common.{◌≡◌, ◌^◌, ◌<◌, ◌≤◌, true, length, take}
use Rattle.trace_line.specs.Turns.{Ready}
use Rattle.trace_whole.specs.Fed.{Ran}
use Rattle.trace_whole.proofs.printed.cycles.Given as goal

abbrev pub invariant-loop-b : goal.invariant-loop-b
invariant-loop-b l = (Ready l.image l.store) × (l.s.held ≤ length l.line) × (length l.store ≡ length l.initial.store) × (length l.record ≡ length l.initial.record) × (length l.line ≡ length l.initial.line) × (length l.out ≡ length l.initial.out) × (l.s.on ≡ true) × (length l.input < 2 ^ 64) × Ran l.image (take l.b-index l.input) l.initial.store l.initial.record l.initial.out l.s l.store l.record l.line l.out

use mathlib.Core.Path.{◌≡◌}
use Prim.Native.Nat.{◌+◌, ◌-◌, ◌^◌, ◌<◌}
use lib.ListN.{drop}
use Rattle.language.specs.Trace.{bits_number}
use Rattle.trace_input.proofs.stimulus.octet_at.Given as goal

abbrev pub invariant-loop-place : goal.invariant-loop-place
invariant-loop-place l = (l.number < 2 ^ (l.place - l.at)) × (bits_number l.count 0 (drop l.at l.line) ≡ bits_number (l.at + l.count - l.place) l.number (drop l.place l.line))

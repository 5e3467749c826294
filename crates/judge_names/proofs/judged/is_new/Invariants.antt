use mathlib.Core.Bool.{false}
use mathlib.Core.Path.{◌≡◌}
use Prim.Native.Nat.{◌≤◌}
use lib.ListN.{drop, length}
use Rattle.language.specs.Rules.{declared}
use Rattle.judge_names.specs.Numbered.{earlier, lengths_of, offset_of}
use Rattle.judge_names.proofs.judged.is_new.Given as goal

abbrev pub invariant-loop-i : goal.invariant-loop-i
invariant-loop-i l =
    (l.offset ≤ length l.ns) × (drop l.offset l.ns ≡ drop (offset_of l.i (lengths_of l.fs l.os l.ss)) l.ns)
    × (declared l.name (earlier (lengths_of l.fs l.os l.ss) l.ns l.i) ≡ false)

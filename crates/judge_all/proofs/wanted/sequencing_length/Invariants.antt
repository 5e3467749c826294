use Rattle.judge_all.proofs.WantedLaws.{from}
use Rattle.judge_all.specs.InSlices.{Declared}
use Rattle.language.specs.Description.{Description, Places, sequencing_of}
use mathlib.Core.List.{List}
use Prim.Native.Nat.{ℕ}
use mathlib.Core.Path.{◌≡◌}
use Rattle.judge_all.proofs.wanted.sequencing_length.Given as goal

abbrev pub invariant-loop-n : goal.invariant-loop-n
invariant-loop-n l = (es ep : List ℕ) (d : Description) (p : Places) → Declared l.fs es l.fp ep d p → from d l.n ≡ sequencing_of d

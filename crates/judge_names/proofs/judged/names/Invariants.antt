use mathlib.Core.List.{[]}
use mathlib.Core.Path.{◌≡◌}
use Prim.Native.Nat.{◌-◌, ◌≤◌}
use lib.ListN.{drop, length}
use Rattle.language.specs.Decode.{up_to}
use Rattle.language.specs.Rules.{name_faults}
use Rattle.language.specs.WordStage.{least}
use Rattle.text_words.specs.Meaning.{judged, lesser}
use Rattle.judge_names.specs.Numbered.{earlier, lengths_of, name_no, offset_of, places_of}
use Rattle.judge_names.specs.Sums.{AllMarked}
use Rattle.judge_names.proofs.OrderLaws.{left}
use Rattle.judge_names.proofs.judged.names.Given as goal

abbrev pub invariant-loop-k : goal.invariant-loop-k
invariant-loop-k l =
    (l.offset ≤ length l.ns) × (drop l.offset l.ns ≡ drop (offset_of l.k (lengths_of l.fs l.os l.ss)) l.ns)
    × (length l.marks ≡ 1024) × AllMarked l.marks (earlier (lengths_of l.fs l.os l.ss) l.ns l.k)
    × (lesser (judged l.all) (left (lengths_of l.fs l.os l.ss) l.ns (places_of l.fp l.op l.sp) (l.count - l.k) l.k)
    ≡ least (name_faults [] (up_to (name_no (lengths_of l.fs l.os l.ss) l.ns) 0 (length (lengths_of l.fs l.os l.ss))) (places_of l.fp l.op l.sp)))

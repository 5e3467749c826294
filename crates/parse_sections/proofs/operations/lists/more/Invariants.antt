use mathlib.Core.List.{List}
use Prim.Native.Nat.{ℕ, ◌-◌}
use Rattle.language.specs.Tree.{Name, Operation}
use Rattle.parse_array.specs.Held.{Held}
use Rattle.parse_sections.specs.Listed.{Standing}
use Rattle.parse_sections.proofs.OperationLists.{Here}
use Rattle.parse_sections.proofs.operations.lists.more.Given as goal

abbrev pub invariant-loop-last : goal.invariant-loop-last
invariant-loop-last l =
    (names : List Name) (first : ℕ) (h : Held) (os : List Operation) → Standing l.text names first h os l.initial.last.next l.initial.last.state l.initial.work
    → Here l.text names first h os l.initial.last.next l.initial.last.state l.initial.work l.last.next l.last.state l.work

abbrev pub decreases-loop-last : goal.decreases-loop-last
decreases-loop-last l = 129 - l.last.state.operations

use mathlib.Core.List.{List}
use Rattle.language.specs.Describe.{NotedAction}
use Rattle.parse_held.proofs.GotoLaws.{Partway}
use Rattle.parse_held.specs.Gotos.{Waiting, labels_in}
use Rattle.parse_held.proofs.gotos.resolve.Given as goal

-- Invariant: the actions before k are resolved.
abbrev pub invariant-loop-k : goal.invariant-loop-k
invariant-loop-k l = (xs : List NotedAction) → Waiting l.from l.to xs l.initial.work → Partway l.text (labels_in l.text l.initial.work l.n) l.from l.to l.k xs l.initial.work l.work

use Rattle.std.specs.Prelude.{Ok}
use mathlib.Core.List.{List}
use Prim.Native.Nat.{◌+◌, ◌-◌, ◌*◌}
use Rattle.text_words.specs.declared.Word.{Word}
use Rattle.parse_actions.proofs.ArmLaws.{Arming}
use Rattle.parse_actions.proofs.ListLaws.{Going}
use Prim.Native.Nat.{ℕ}
use Rattle.parse_actions.proofs.+action_another_arm_arms_cases_list_next_arm_otherwise_when.Given as goal

abbrev pub decreases-action : goal.decreases-action
decreases-action l = (24 - l.s.nesting) * 16 + 5

abbrev pub decreases-another : goal.decreases-another
decreases-another l = (24 - l.s.nesting) * 16 + 6

abbrev pub decreases-arm : goal.decreases-arm
decreases-arm l = (24 - l.s.nesting) * 16 + 8

abbrev pub decreases-arms : goal.decreases-arms
decreases-arms l = (24 - l.s.nesting) * 16 + 10

abbrev pub decreases-cases : goal.decreases-cases
decreases-cases l = (24 - l.s.nesting) * 16 + 4

abbrev pub decreases-list : goal.decreases-list
decreases-list l = (24 - l.s.nesting) * 16 + 7

abbrev pub decreases-next_arm : goal.decreases-next_arm
decreases-next_arm l = (24 - l.s.nesting) * 16 + 9

abbrev pub decreases-otherwise : goal.decreases-otherwise
decreases-otherwise l = (24 - l.s.nesting) * 16 + 9

abbrev pub decreases-when : goal.decreases-when
decreases-when l = (24 - l.s.nesting) * 16 + 4

abbrev pub invariant-arms-loop-count : goal.invariant-arms-loop-count
invariant-arms-loop-count l = (w : Word) (v : List ℕ) → Arming l.in_state l.text l.n w l.s v 1 (Ok l.initial.reached) l.initial.work → Arming l.in_state l.text l.n w l.s v l.count (Ok l.reached) l.work

abbrev pub invariant-list-loop : goal.invariant-list-loop
invariant-list-loop l = (w : Word) (v : List ℕ) → Going l.in_state l.text l.n w l.s v 1 (Ok l.initial.read) l.initial.work → Going l.in_state l.text l.n w l.s v l.counter (Ok l.read) l.work

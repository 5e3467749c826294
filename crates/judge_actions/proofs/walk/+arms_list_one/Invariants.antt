use Rattle.judge_actions.specs.Acting.{ListedBy}
use Rattle.judge_actions.specs.Listed.{arms_at, held_by, list_at}
use Rattle.judge_actions.proofs.JoinLaws.{Continues, arms_both, works}
use Rattle.language.specs.Description.{Description, Places}
use Rattle.language.specs.Judging.{Judged}
use Prim.Native.Nat.{ℕ, ◌+◌, ◌*◌, ◌≤◌}
use Rattle.judge_actions.proofs.walk.+arms_list_one.Given as goal

abbrev pub decreases-arms : goal.decreases-arms
decreases-arms l = 2 * l.k + 1

abbrev pub decreases-list : goal.decreases-list
decreases-list l = 2 * l.k + 1

abbrev pub decreases-one : goal.decreases-one
decreases-one l = 2 * held_by l.b + 2

abbrev pub invariant-arms-loop-left : goal.invariant-arms-loop-left
invariant-arms-loop-left l = (l.j + l.left ≤ 0xffffffff) × (l.left ≤ l.k)
    × ((d : Description) (p : Places) (w : ℕ → Judged) → ListedBy l.sections l.own d p w → Continues arms_both (arms_at d p l.own.state w) l.k l.i l.all l.left l.j)

abbrev pub decreases-arms-loop-left : goal.decreases-arms-loop-left
decreases-arms-loop-left l = l.left

abbrev pub invariant-list-loop-left : goal.invariant-list-loop-left
invariant-list-loop-left l = (l.j + l.left ≤ 0xffffffff) × (l.left ≤ l.k)
    × ((d : Description) (p : Places) (w : ℕ → Judged) → ListedBy l.sections l.own d p w → Continues works (list_at d p l.own.state w) l.k l.i l.all l.left l.j)

abbrev pub decreases-list-loop-left : goal.decreases-list-loop-left
decreases-list-loop-left l = l.left

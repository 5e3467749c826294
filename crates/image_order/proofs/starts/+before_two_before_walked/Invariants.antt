use Prim.Native.Nat.{◌+◌, ◌*◌}
use Rattle.image_order.proofs.starts.+before_two_before_walked.Given as goal

abbrev pub decreases-before : goal.decreases-before
decreases-before l = 3 * l.n

abbrev pub decreases-walked : goal.decreases-walked
decreases-walked l = 3 * l.n + 2

abbrev pub decreases-two_before : goal.decreases-two_before
decreases-two_before l = 3 * l.n + 1

use mathlib.Core.Path.{◌≡◌}
use Prim.Native.Nat.{◌*◌, ◌/◌, ◌-◌, ◌≤◌}
use lib.ListN.{drop, length}
use Rattle.image_form.proofs.LabelLaws.{all_labels}
use Rattle.image_form.specs.Names.{labels_right}
use Rattle.language.specs.Encode.{state_size}
use Rattle.image_form.proofs.labels.labels_right.Given as goal

abbrev pub invariant-loop-n : goal.invariant-loop-n
invariant-loop-n l = (l.from ≤ 255 * l.n) × (all_labels (length l.states / state_size - l.n) (state_size * l.n) l.states (drop l.from l.names) ≡ labels_right l.states l.names)

-- Depths as they are noted, and the depth of a record by the parts of what belongs to it.
use Rattle.std.specs.Prelude.{List, ℕ, suc, max, get_or}
use Rattle.image_order.specs.declared.starts.Parts.{Parts}
use Rattle.image_order.specs.declared.starts.Parts.TheVariants as S

abbrev pub noted : List ℕ → ℕ → ℕ
noted depths n = get_or depths n 0

abbrev pub depth_parts : (ℕ → ℕ) → Parts → ℕ
depth_parts depth S.No = 1
depth_parts depth S.Leaf = 1
depth_parts depth (S.Digits l) = 1
depth_parts depth (S.One a) = suc (depth a)
depth_parts depth (S.Two a b) = suc (max (depth a) (depth b))

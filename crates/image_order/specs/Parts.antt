-- Where the tree of a record begins, by its parts.
use Rattle.std.proofs.Math.Option.{Option, none, some}
use Rattle.std.specs.Prelude.{ℕ}
use Rattle.language.specs.Description.{Description}
use Rattle.language.specs.Order.{constant_start, just_before, two_before}
use Rattle.image_records.specs.declared.nodes.Node.{Node}
use Rattle.image_records.specs.declared.nodes.Node.TheVariants as N
use Rattle.image_order.specs.declared.starts.Parts.{Parts}
use Rattle.image_order.specs.declared.starts.Parts.TheVariants as S

abbrev pub parts_of : Node → Parts
parts_of (N.Constant l) = S.Digits l
parts_of (N.More d) = S.No
parts_of (N.Whole f) = S.Leaf
parts_of (N.One f e) = S.One e
parts_of (N.Part f a b) = S.Leaf
parts_of (N.Two f e g) = S.Two e g
parts_of (N.WordPart f e a b) = S.One e
parts_of (N.Binary k a b) = S.Two a b
parts_of (N.Prefix k a) = S.One a
parts_of (N.Cut k a c) = S.One a
parts_of (N.FirstArm e) = S.One e
parts_of (N.NextArm a e) = S.Two a e
parts_of (N.Choice e a n) = S.Two e a
parts_of N.Broken = S.No

-- v is a constant's number.
abbrev pub start_parts : Description → (ℕ → Option ℕ) → ℕ → ℕ → Parts → Option ℕ
start_parts d start n v S.No = none
start_parts d start n v S.Leaf = some n
start_parts d start n v (S.Digits l) = constant_start d n l v
start_parts d start n v (S.One a) = just_before d start a n
start_parts d start n v (S.Two a b) = two_before d start a b n

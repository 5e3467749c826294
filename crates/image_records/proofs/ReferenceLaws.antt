-- What is no reference, and records that nothing widens.
use mathlib.Core.List.{List, [], ◌∷◌}
use mathlib.Core.Option.{none}
use mathlib.Core.Path.{◌≡◌, refl, ap}
use denote.Enum.Declared.{tag_of}
use types.Run.{OneOf, miss}
use native.Mathlib.Omega.{arith}
use Prim.Native.Nat.{ℕ, ◌+◌, ◌*◌}
use Rattle.language.specs.Description as D
use Rattle.language.specs.Description.{Bounds}
use Rattle.language.specs.References.{reference_of}
use Rattle.image_records.specs.contracts.nodes.Node.{the_type}
use Rattle.image_records.specs.Nodes.{meant}
use Rattle.image_records.specs.References.{widened, widened_node}
use Rattle.image_records.specs.declared.nodes.Node.{Node}
use Rattle.image_records.specs.declared.nodes.Node.TheVariants as N

abbrev no-references : List ℕ
no-references = 0 ∷ 1 ∷ 7 ∷ 8 ∷ 9 ∷ 10 ∷ 11 ∷ 12 ∷ 13 ∷ []

pub no-reference : (a b v : ℕ) (r : Node) → OneOf no-references (tag_of the_type r) → none ≡ reference_of (widened_node a b (meant v r))
no-reference a b v (N.Constant l) k = refl
no-reference a b v (N.More d) k = refl
no-reference a b v (N.Whole f) k = absurd (miss no-references 2 tt k)
no-reference a b v (N.One f e) k = absurd (miss no-references 3 tt k)
no-reference a b v (N.Part f x y) k = absurd (miss no-references 4 tt k)
no-reference a b v (N.Two f e g) k = absurd (miss no-references 5 tt k)
no-reference a b v (N.WordPart f e x y) k = absurd (miss no-references 6 tt k)
no-reference a b v (N.Binary o x y) k = refl
no-reference a b v (N.Prefix o x) k = refl
no-reference a b v (N.Cut o x c) k = refl
no-reference a b v (N.FirstArm e) k = refl
no-reference a b v (N.NextArm x e) k = refl
no-reference a b v (N.Choice e x n) k = refl
no-reference a b v N.Broken k = refl

bounds-unwidened : (b : Bounds) → widened b 0 0 ≡ b
bounds-unwidened b =
    let f : b.first + 65536 * 0 ≡ b.first = omega arith in
    let l : b.last + 65536 * 0 ≡ b.last = omega arith in
    rw (f, l)

pub unwidened : (x : D.Node) → widened_node 0 0 x ≡ x
unwidened (D.constant v) = refl
unwidened (D.more n) = refl
unwidened (D.whole f) = refl
unwidened (D.one f e) = refl
unwidened (D.part f b) = ap (D.part f) (bounds-unwidened b)
unwidened (D.two f e g) = refl
unwidened (D.word_part f e b) = ap (D.word_part f e) (bounds-unwidened b)
unwidened (D.binary k a b) = refl
unwidened (D.prefix k a) = refl
unwidened (D.cut k a c) = refl
unwidened (D.first_arm e) = refl
unwidened (D.next_arm a e) = refl
unwidened (D.choice e a n) = refl
unwidened D.Node.broken = refl

-- What the code's references mean in the language, and ends of a part above what a record has room for.
use Rattle.std.proofs.Math.Option.{Option, none}
use Rattle.std.specs.Prelude.{Option as StdOption, None, Some, ℕ, ◌+◌, ◌*◌}
use Rattle.language.specs.Description as D
use Rattle.language.specs.Description.{Bounds, Node, bounds}
use Rattle.language.specs.References as R
use Rattle.store_geometry.specs.Subscripts.{subscripts_meant}
use Rattle.store_geometry.specs.declared.subscripts.Subscripts.{Subscripts}

abbrev pub reference_meant : StdOption (ℕ × Subscripts) → Option R.Reference
reference_meant (Some (f, s)) = R.refer_to f (subscripts_meant s)
reference_meant None = none

-- A bound whose record has no room for it.
abbrev pub widened : Bounds → ℕ → ℕ → Bounds
widened b first last = bounds (b.first + 65536 * first) (b.last + 65536 * last)

abbrev pub widened_node : ℕ → ℕ → Node → Node
widened_node p q (D.constant v) = D.constant v
widened_node p q (D.more n) = D.more n
widened_node p q (D.whole f) = D.whole f
widened_node p q (D.one f e) = D.one f e
widened_node p q (D.part f b) = D.part f (widened b p q)
widened_node p q (D.two f e g) = D.two f e g
widened_node p q (D.word_part f e b) = D.word_part f e (widened b p q)
widened_node p q (D.binary k a b) = D.binary k a b
widened_node p q (D.prefix k a) = D.prefix k a
widened_node p q (D.cut k a c) = D.cut k a c
widened_node p q (D.first_arm e) = D.first_arm e
widened_node p q (D.next_arm a e) = D.next_arm a e
widened_node p q (D.choice e a n) = D.choice e a n
widened_node p q D.Node.broken = D.Node.broken

use mathlib.Core.Path.{ap, ◌∙◌}
use Prim.Native.Nat.{ℕ}
use lib.ListN.{take}
use Rattle.text_items.proofs.digits.digits_at.Goals as goal

pub returns : goal.returns
returns c = c.first.ensures ∙ ap (λ (n : ℕ). take n c.args.text.now) c.length_of.ensures

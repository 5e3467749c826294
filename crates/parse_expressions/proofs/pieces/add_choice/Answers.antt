use Rattle.language.specs.Description as D
use Rattle.language.specs.Encode.{node_bytes}
use Rattle.parse_operands.proofs.ReferenceLaws.{gained-as}
use mathlib.Core.Path.{ap}
use Prim.Native.Nat.{ℕ}
use Rattle.parse_expressions.proofs.pieces.add_choice.Goals as goal

pub returns : goal.returns
returns c =
    gained-as c.add.ensures (ap (λ (k : ℕ). node_bytes (D.choice c.args.condition k c.args.count)) c.last.ensures) c.plain-beside.ensures

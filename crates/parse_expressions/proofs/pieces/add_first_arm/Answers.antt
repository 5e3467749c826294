use Rattle.language.specs.Description as D
use Rattle.language.specs.Description.{node_places}
use Rattle.language.specs.Encode.{node_bytes}
use Rattle.language.specs.Words.{Position}
use Rattle.judge_records.specs.Noted.{plain_places}
use Rattle.parse_operands.proofs.ReferenceLaws.{gained-as}
use mathlib.Core.Path.{ap, ◌∙◌}
use Prim.Native.Nat.{ℕ}
use Rattle.parse_expressions.proofs.pieces.add_first_arm.Goals as goal

pub returns : goal.returns
returns c =
    gained-as c.add.ensures (ap (λ (k : ℕ). node_bytes (D.first_arm k)) c.last.ensures) (c.plain-beside.ensures ∙ ap (λ (p : Position). plain_places (node_places p)) c.position.ensures)

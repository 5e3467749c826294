use Rattle.about_grammar.specs.Following.{among}
use Rattle.parse_levels.specs.Orders.{operators_of}
use mathlib.Core.Path.{ap, ◌∙◌}
use Prim.Native.Nat.{ℕ}
use Rattle.parse_expressions.proofs.pieces.operates.Goals as goal

pub returns : goal.returns
returns c =
    c.operates.ensures ∙ ap (λ (k : ℕ). among k (operators_of c.args.rank)) c.kind_of.ensures

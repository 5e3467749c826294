use mathlib.Core.List.{List}
use mathlib.Core.Path.{ap, ◌∙◌}
use Prim.Native.Nat.{ℕ}
use Rattle.language.specs.Scan.{same}
use Rattle.image_records.proofs.bytes.stand.Goals as goal

pub returns : goal.returns
returns c =
    c.same.ensures ∙ ap (λ (x : List ℕ). same x c.args.bytes.now) c.part.ensures

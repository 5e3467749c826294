use Rattle.language.specs.Description.{bounds}
use Prim.Native.Nat.{ℕ, ◌+◌, ◌*◌}
use mathlib.Core.Path.{ap, ap₂, ◌∙◌}
use Rattle.judge_records.proofs.facilities.widened_at.Goals as goal

pub returns : goal.returns
returns c =
    ap₂ (λ (m n : ℕ). bounds m n) (c.joined.ensures ∙ ap (λ (m : ℕ). c.args.first + 65536 * m) c.large_no.ensures.0) (c.joined-2.ensures ∙ ap (λ (m : ℕ). c.args.last + 65536 * m) c.large_no-2.ensures.0)

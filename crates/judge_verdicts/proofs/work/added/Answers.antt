use Rattle.judge_verdicts.proofs.CappedLaws.{sum_capped}
use mathlib.Core.Path.{ap, ◌∙◌}
use Prim.Native.Nat.{ℕ, min}
use Rattle.judge_verdicts.proofs.work.added.Goals as goal

pub returns : goal.returns
returns c =
    λ a b p q. c.min.ensures ∙ ap (λ (n : ℕ). min n 65537) c.saturating_add.ensures ∙ sum_capped a b _ _ p q

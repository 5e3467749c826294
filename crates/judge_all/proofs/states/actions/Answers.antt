use Rattle.judge_all.proofs.OperationLaws.{listed_of}
use Rattle.judge_all.proofs.StateLaws.{run_is}
use Rattle.image_sections.specs.Declarations.{run_meant}
use Rattle.language.specs.ActionRules.{operation_below}
use Rattle.judge_verdicts.specs.Meaning.{seen}
use mathlib.Core.Path.{refl, ap, ◌∙◌}
use Prim.Native.Nat.{ℕ}
use Rattle.judge_all.proofs.states.actions.Goals as goal

pub returns : goal.returns
returns c =
    λ d p os s r e.
    let k : ℕ = c.args.ops in
    c.list.ensures d p (operation_below d p k) (listed_of k s r c.requires)
    ∙ ap seen (run_is d p k e (run_meant c.args.run) refl)

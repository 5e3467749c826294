use mathlib.Core.Path.{ap, ◌∙◌}
use Rattle.language.specs.Calls.{CycleCall}
use Rattle.call_answers.specs.Numbers.{cycle_numbers}
use Rattle.ddlp.proofs.calls.ddlp_cycle.Goals as goal

pub cycle-answer-requires : goal.cycle-answer-requires
cycle-answer-requires c = c.passes.ensures

pub returns : goal.returns
returns c =
    let e = c.cycle-answer.ensures in record {
      value = c.cycle_numbers.ensures ∙ ap (λ (x : CycleCall). cycle_numbers x.answer) e;
      store_after = ap (λ (x : CycleCall). x.store) e;
      record_after = ap (λ (x : CycleCall). x.record') e;
      scratch_after = ap (λ (x : CycleCall). x.scratch) e;
    }

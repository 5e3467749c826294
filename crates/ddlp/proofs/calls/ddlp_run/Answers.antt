use mathlib.Core.Path.{ap, ◌∙◌}
use Rattle.language.specs.Calls.{RunCall}
use Rattle.call_answers.specs.Numbers.{run_numbers}
use Rattle.ddlp.proofs.calls.ddlp_run.Goals as goal

pub run-answer-requires : goal.run-answer-requires
run-answer-requires c = c.passes.ensures

pub returns : goal.returns
returns c =
    let e = c.run-answer.ensures in record {
      value = c.run_numbers.ensures ∙ ap (λ (x : RunCall). run_numbers x.answer) e;
      store_after = ap (λ (x : RunCall). x.store) e;
      record_after = ap (λ (x : RunCall). x.record') e;
      scratch_after = ap (λ (x : RunCall). x.scratch) e;
      trace_after = ap (λ (x : RunCall). x.trace) e;
    }

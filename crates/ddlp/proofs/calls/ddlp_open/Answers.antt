use mathlib.Core.Path.{ap, ◌∙◌}
use Rattle.language.specs.Calls.{OpenCall}
use Rattle.call_answers.specs.Numbers.{open_number}
use Rattle.ddlp.proofs.calls.ddlp_open.Goals as goal

pub open-answer-requires : goal.open-answer-requires
open-answer-requires c = c.passes.ensures

pub returns : goal.returns
returns c =
    let e = c.open-answer.ensures in record {
      value = c.open_number.ensures ∙ ap (λ (x : OpenCall). open_number x.answer) e;
      store_after = ap (λ (x : OpenCall). x.store) e;
      record_after = ap (λ (x : OpenCall). x.record') e;
    }

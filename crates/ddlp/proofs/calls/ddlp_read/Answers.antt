use mathlib.Core.Path.{ap, subst, sym, ◌∙◌}
use Rattle.language.specs.Reading.{ReadCall}
use Rattle.call_answers.specs.Reading.{Short}
use Rattle.call_answers.specs.Numbers.{read_numbers}
use Rattle.ddlp.proofs.calls.ddlp_read.Goals as goal

pub read_numbers-requires : goal.read_numbers-requires
read_numbers-requires c =
    subst (λ (x : ReadCall). Short x.answer) (sym c.read-answer.ensures.image_after) c.read-answer.ensures.short

pub returns : goal.returns
returns c =
    let e = c.read-answer.ensures.image_after in record {
      value = c.read_numbers.ensures ∙ ap (λ (x : ReadCall). read_numbers x.answer) e;
      image_after = ap (λ (x : ReadCall). x.image) e;
    }

use mathlib.Core.Path.{sym, ◌∙◌}
use native.Mathlib.Omega.{arith}
use Rattle.run_begin.proofs.SizeLaws.{input-here, input-not}
use Rattle.run_begin.proofs.sizes.input_bytes.Goals as goal

pub returns-then-is_input : goal.returns-then-is_input
returns-then-is_input c =
    (c.words_bytes.ensures.0, λ name. input-here _ _ (sym c.is_input.ensures ∙ c.if-is_input.true) (c.words_bytes.ensures.1 name))

pub returns-else-is_input : goal.returns-else-is_input
returns-else-is_input c =
    (omega arith, λ name. input-not _ (sym c.is_input.ensures ∙ c.if-is_input.false))

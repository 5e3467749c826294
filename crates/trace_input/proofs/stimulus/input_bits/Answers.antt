use mathlib.Core.Path.{sym, ◌∙◌}
use Rattle.trace_input.proofs.LineTaken.{bits-input, bits-other}
use Rattle.trace_input.proofs.stimulus.input_bits.Goals as goal

pub returns-then-is_input : goal.returns-then-is_input
returns-then-is_input c =
    λ name. bits-input _ _ (sym c.is_input.ensures ∙ c.if-is_input.true) (c.word_length.ensures.1 name)

pub returns-else-is_input : goal.returns-else-is_input
returns-else-is_input c =
    λ name. bits-other _ (sym c.is_input.ensures ∙ c.if-is_input.false)

-- What stands in brackets: behind `[` it is the first subscript, behind `,` or a second `[` the second one.
use Rattle.std.specs.Prelude.{Bool, true, false}
use Rattle.language.specs.Building.{Built}
use Rattle.language.specs.Declaring.{tree_steps}
use Rattle.language.specs.Machine.{Ask, after_constant, after_second_constant, after_subscript, operand_rest, second, second_end, second_rest, subscript}
use Rattle.language.specs.BuildSteps.{Step}

abbrev pub bracket_ask : Bool → Ask
bracket_ask false = subscript
bracket_ask true = second

-- After it, after a constant that begins it, and after the rest of such an expression.
abbrev pub bracket_end : Bool → Ask
bracket_end false = after_subscript
bracket_end true = second_end

abbrev pub bracket_waits : Bool → Ask
bracket_waits false = after_constant
bracket_waits true = after_second_constant

abbrev pub bracket_rest : Bool → Ask
bracket_rest false = operand_rest
bracket_rest true = second_rest

-- The node of a part.
abbrev pub bracket_make : Bool → Step Built
bracket_make false = tree_steps.make_part
bracket_make true = tree_steps.make_word_part

use mathlib.Core.Path.{ap₂, sym, ◌∙◌}
use Rattle.language.specs.Columns.{long_lines}
use Rattle.language.specs.WordStage.{scan, word_fault, word_faults}
use Rattle.text_words.specs.Meaning.{lesser}
use Rattle.text_words.proofs.Least.{least-both}
use Rattle.text_words.proofs.stage.word_fault.Goals as goal

pub returns : goal.returns
unfolding word_fault word_faults
returns c = c.earlier.ensures ∙ ap₂ lesser c.first_wrong.ensures c.first_long.ensures ∙ sym (least-both (scan c.args.text.now).faults (long_lines 0 0 c.args.text.now))

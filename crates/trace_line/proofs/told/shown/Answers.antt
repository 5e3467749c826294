use mathlib.Core.Path.{sym, ◌∙◌}
use Rattle.language.specs.Decode.{decode, section_at}
use Rattle.language.specs.Layout.{store_size}
use Rattle.image_lookups.proofs.NamesThere.{state-name-there}
use Rattle.language.specs.Encode.{expressions_section, node_size}
use Rattle.run_soundness.proofs.PassedLaws.{passed-facilities}
use Rattle.trace_line.proofs.SectionLaws.{image-described, image-named}
use Rattle.trace_line.proofs.told.shown.Goals as goal

pub state_name-name-requires : goal.state_name-name-requires
state_name-name-requires c = sym c.requires.0

pub cycle_line-requires : goal.cycle_line-requires
cycle_line-requires c =
    rw c.section-facilities.ensures (passed-facilities _ c.requires.0)

pub returns : goal.returns
unfolding store_size
returns c =
    c.cycle_line.ensures.1 (decode c.args.image.now) (section_at expressions_section node_size c.args.image.now) c.args.state (image-described c.args.image.now c.requires.0 c.section-facilities.ensures) (image-named c.args.image.now c.section-facilities.ensures c.section-names.ensures) c.requires.1 (c.state_name-name.ensures ∙ state-name-there c.args.image.now c.requires.0 c.args.state)

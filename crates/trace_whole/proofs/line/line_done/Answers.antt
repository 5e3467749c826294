use Rattle.language.specs.Decode.{decode, section_at}
use Rattle.language.specs.Encode.{expressions_section, node_size}
use Rattle.trace_line.proofs.SectionLaws.{image-described}
use Rattle.trace_whole.proofs.LineLaws.{turned_none, turned_taken}
use Rattle.trace_whole.proofs.line.line_done.Goals as goal

pub returns-in-None : goal.returns-in-None
returns-in-None c =
    turned_none c.args.stimulus.now c.stimulus_of.new.stimulus c.stimulus_of.result c.in-None.is (c.stimulus_of.ensures (decode c.args.image.now) (section_at expressions_section node_size c.args.image.now) (image-described c.args.image.now c.requires.0 c.section-facilities.ensures) c.requires.3) c.not_taken.ensures.0 c.not_taken.ensures.1

pub returns-in-Some : goal.returns-in-Some
returns-in-Some c =
    turned_taken c.args.stimulus.now c.stimulus_of.new.stimulus c.stimulus_of.result _ c.in-Some.is (c.stimulus_of.ensures (decode c.args.image.now) (section_at expressions_section node_size c.args.image.now) (image-described c.args.image.now c.requires.0 c.section-facilities.ensures) c.requires.3) _ c.requires.2 _ c.part-taken.ensures c.carried.ensures

use mathlib.Core.Path.{◌≡◌, ◌∙◌, subst}
use Prim.Native.Nat.{◌+◌}
use lib.ListN.{length}
use Rattle.std.specs.Prelude.{Err, Ok}
use Rattle.call_answers.specs.Reading.{called}
use Rattle.language.specs.Encode.{image_of}
use Rattle.language.specs.Reading.{with_room}
use Rattle.language.specs.declared.refusals.Refusal.TheVariants.{BufferTooShort}
use Rattle.parse_held.proofs.BodyLaws.{within-few}
use Rattle.parse_held.proofs.WholeLaws.{no_room, room}
use Rattle.parse_held.specs.declared.Holding.{Holding}
use Rattle.parse_held.specs.Sections.{sections_held}
use Rattle.parse_image.proofs.whole.write_image.Goals as goal

pub returns-then-image-from : goal.returns-then-image-from
returns-then-image-from c =
    λ f. subst (λ (x : Holding). called (Err (record { refusal = BufferTooShort; place = 0 })) c.zero.new.s ≡ with_room (length c.args.image.now) (image_of (sections_held c.args.text.now c.args.work.now x))) (c.within-few.ensures.0 ∙ within-few c.args.c f) (no_room c.args.text.now c.args.work.now c.within-few.result c.s-1.given c.within-few.ensures.1 c.args.image.now c.count-n.ensures.0 c.names_from-from.ensures.0 c.zero.ensures c.if-image-from.true)

pub returns : goal.returns
returns c =
    λ f. subst (λ (x : Holding). called (Ok (c.names_from-from.result + c.count-n.result)) c.put-2.new.image ≡ with_room (length c.args.image.now) (image_of (sections_held c.args.text.now c.args.work.now x))) (c.within-few.ensures.0 ∙ within-few c.args.c f) (room c.args.text.now c.args.work.now c.within-few.result c.s-1.given c.within-few.ensures.1 c.args.image.now c.count-n.ensures.0 c.names_from-from.ensures.0 c.zero.ensures c.if-image-from.false c.header_counts.ensures c.write_header.ensures c.put.ensures c.put-2.ensures)

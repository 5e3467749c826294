use mathlib.Core.Path.{refl, ap}
use native.Mathlib.Omega.{arith}
use Rattle.language.specs.Layout.{word_bytes}
use Rattle.image_sections.specs.Declarations.{facility_meant}
use Rattle.trace_output.proofs.AddsLaws.{adds-as}
use Rattle.trace_output.proofs.TextLaws.{word-shown}
use Rattle.trace_output.proofs.shown.word.Goals as goal

pub returns-then-store-word_place : goal.returns-then-store-word_place
returns-then-store-word_place c =
    (refl, λ name h. absurd (omega (arith, h, c.if-store-word_place.true, c.word_place.ensures, ap word_bytes (c.word_length-length.ensures.1 name))))

pub bits-requires : goal.bits-requires
bits-requires c = omega arith

pub returns : goal.returns
returns c =
    (c.bits.ensures.long, λ name h. adds-as c.bits.ensures (word-shown (facility_meant name c.args.f) c.args.f.place c.args.store.now c.word_length-length.result (c.word_length-length.ensures.1 name)))

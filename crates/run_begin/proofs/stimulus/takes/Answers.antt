use mathlib.Core.Path.{◌≡◌, refl, sym, ap, ap₂, ◌∙◌}
use mathlib.Core.Bool.{false, true}
use Prim.Native.Nat.{◌*◌}
use Rattle.std.specs.Bool.{then_some}
use Rattle.language.specs.Description.{Facility, word_count, word_length}
use Rattle.language.specs.Layout.{word_bytes}
use Rattle.language.specs.Store.{is_input}
use Rattle.image_sections.specs.Declarations.{facility_in}
use Rattle.store_layout.specs.Spare.{narrow_at}
use Rattle.run_begin.proofs.SizeLaws.{fits-input, fits-other, input-here, input-not}
use Rattle.run_begin.proofs.stimulus.takes.Goals as goal

pub returns-then-not-is_input : goal.returns-then-not-is_input
returns-then-not-is_input c =
    λ name.
    let f = facility_in c.args.section.now c.args.n name in
    let e : is_input f.kind ≡ false = ap is_input (sym (c.kind_at.ensures name)) ∙ (sym c.is_input.ensures ∙ c.if-not-is_input.true) in
    rw (fits-other c.args.stimulus.now c.args.at f e, sym (input-not f e)) refl

pub returns : goal.returns
returns c =
    λ name.
    let f = facility_in c.args.section.now c.args.n name in
    let g = c.facility_at-f.ensures.meaning name in
    let e : is_input f.kind ≡ true = ap is_input (sym (c.kind_at.ensures name)) ∙ (sym c.is_input.ensures ∙ c.if-not-is_input.false) in
    c.then_some.ensures
    ∙ ap₂ then_some
    (c.no_spare_bits.ensures
    ∙ (ap₂ (narrow_at c.args.stimulus.now c.args.at) (c.word_count.ensures.1 name) (c.word_length.ensures.1 name)
    ∙ (ap (λ (y : Facility). narrow_at c.args.stimulus.now c.args.at (word_count y) (word_length y)) g ∙ sym (fits-input c.args.stimulus.now c.args.at f e))))
    (input-here f c.words_bytes.result e (c.words_bytes.ensures.1 name ∙ ap (λ (y : Facility). word_count y * word_bytes (word_length y)) g))

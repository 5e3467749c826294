use mathlib.Core.Bool.{false}
use mathlib.Core.Path.{◌≡◌, sym, ap, ap₂, ◌∙◌}
use Prim.Native.Nat.{ℕ}
use native.Mathlib.Omega.{arith}
use Rattle.language.specs.Description.{Facility}
use Rattle.image_sections.specs.Declarations.{facility_in, place_field_in}
use Rattle.run_begin.specs.InBytes.{begins, begun_at, input_bytes}
use Rattle.run_begin.proofs.SizeLaws.{input-not}
use Rattle.run_begin.proofs.BeginLoop.{begun_kept, kept-no-input}
use Rattle.run_begin.proofs.start.begin_at.Goals as goal

pub returns-then-not-changes : goal.returns-then-not-changes
returns-then-not-changes c = (
  omega arith,
  λ name.
      let f = facility_in c.args.section.now c.args.n name in
      let e : begins f.kind ≡ false = ap begins (sym (c.kind_at.ensures name)) ∙ (sym c.changes.ensures ∙ c.if-not-changes.true) in
      (input-not f (kept-no-input f.kind e), begun_kept f (place_field_in c.args.section.now c.args.n) c.args.store.now c.args.stimulus.now c.args.at e),
)

pub returns : goal.returns
returns c = (
  c.input_bytes.ensures.0,
  λ name. (
    c.input_bytes.ensures.1 name ∙ ap input_bytes (c.facility_at-f.ensures.meaning name),
    c.begin_one.ensures name ∙ ap₂ (λ (y : Facility) (p : ℕ). begun_at y p c.args.store.now c.args.stimulus.now c.args.at) (c.facility_at-f.ensures.meaning name) c.facility_at-f.ensures.place,
  ),
)

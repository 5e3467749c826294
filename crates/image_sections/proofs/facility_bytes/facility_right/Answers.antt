use mathlib.Core.Path.{sym, ◌∙◌}
use Prim.Native.Nat.{◌*◌}
use native.Mathlib.Omega.{arith}
use Rattle.language.specs.Encode.{facility_size}
use Rattle.image_records.proofs.ByteLaws.{stand-past}
use Rattle.image_sections.proofs.DeclarationLaws.{name-whole}
use Rattle.image_sections.proofs.FacilitySame.{facility-computed, facility-stored}
use Rattle.image_sections.proofs.WrittenDeclarations.{facility-length}
use Rattle.image_sections.specs.Declarations.{facility_in}
use Rattle.image_sections.proofs.facility_bytes.facility_right.Goals as goal

pub returns-then-facilities-n : goal.returns-then-facilities-n
returns-then-facilities-n c =
    let s = c.args.facilities.now in
    λ name e.
    sym (stand-past s _ (facility_size * c.args.n) facility_size (facility-length c.args.place (facility_in s c.args.n name)) (omega arith) (omega (arith, c.if-facilities-n.true)))

pub returns-then-kind-ge-COMPUTED : goal.returns-then-kind-ge-COMPUTED
returns-then-kind-ge-COMPUTED c =
    λ name e. facility-computed c.args.facilities.now (λ i. omega (arith, c.shared_slice_known-1.given i)) c.args.n name (omega arith) (e ∙ name-whole facility_size 2 c.args.facilities.now c.args.n (omega arith)) c.args.place c.if-kind-ge-COMPUTED.true

pub returns : goal.returns
returns c =
    λ name e. rw c.two_there.ensures (facility-stored c.args.facilities.now (λ i. omega (arith, c.shared_slice_known-1.given i)) c.args.n name (omega arith) (e ∙ name-whole facility_size 2 c.args.facilities.now c.args.n (omega arith)) c.args.place (omega (arith, c.if-kind-ge-COMPUTED.false)))

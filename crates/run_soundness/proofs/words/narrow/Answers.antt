use mathlib.Core.Path.{◌≡◌, sym, ◌∙◌}
use Prim.Native.Nat.{suc, ◌+◌, ◌≤◌, ◌<◌}
use native.Mathlib.Omega.{arith}
use lib.ListN.{length}
use Rattle.language.specs.Description.{facility_at}
use Rattle.image_sections.specs.Declarations.{facility_meant}
use Rattle.run_references.proofs.PlaceLaws.{facility-known, name_of, stored-place}
use Rattle.run_soundness.proofs.WordLaws.{narrow-all, narrow-more, narrow-none, narrow-stop}
use Rattle.run_soundness.proofs.words.narrow.Goals as goal

pub loop-n-init : goal.loop-n-init
loop-n-init c =
    λ d E h room. narrow-all d.facilities _

pub returns-then-not-narrow_in : goal.returns-then-not-narrow_in
unfolding facility_at
returns-then-not-narrow_in c =
    λ d E h room.
    let n : c.loop-n.n < length d.facilities = rw h.count c.loop-n-test.true in
    let s = narrow-stop d.facilities c.loop-n.n (facility_meant (name_of h c.loop-n.n c.facility_at.result c.facility_at.ensures) c.facility_at.result) (facility-known h c.loop-n.n c.facility_at.result c.facility_at.ensures) n _ room c.facility_at.result.place (stored-place h c.loop-n.n c.facility_at.result c.facility_at.ensures n) in
    sym (sym (c.loop-n.invariant d E h room) ∙ s (sym (c.narrow_in.ensures _) ∙ c.if-not-narrow_in.true))

pub loop-n-preserved : goal.loop-n-preserved
unfolding facility_at
loop-n-preserved c =
    λ d E h room.
    let n : c.loop-n.n < length d.facilities = rw h.count c.loop-n-test.true in
    let p : c.loop-n.n + 1 ≡ suc c.loop-n.n = omega arith in
    let s = narrow-more d.facilities c.loop-n.n (facility_meant (name_of h c.loop-n.n c.facility_at.result c.facility_at.ensures) c.facility_at.result) (facility-known h c.loop-n.n c.facility_at.result c.facility_at.ensures) n _ room c.facility_at.result.place (stored-place h c.loop-n.n c.facility_at.result c.facility_at.ensures n) in
    rw p (sym (s (sym (c.narrow_in.ensures _) ∙ c.if-not-narrow_in.false)) ∙ c.loop-n.invariant d E h room)

pub returns : goal.returns
returns c =
    λ d E h room.
    let n : length d.facilities ≤ c.loop-n.n = rw h.count c.loop-n-test.false in
    sym (narrow-none d.facilities c.loop-n.n _ n) ∙ c.loop-n.invariant d E h room

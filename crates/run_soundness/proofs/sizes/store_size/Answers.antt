use mathlib.Core.Path.{◌≡◌, ap, ◌∙◌}
use Prim.Native.Nat.{suc, ◌+◌, ◌≤◌, ◌<◌}
use native.Mathlib.Omega.{arith}
use lib.ListN.{drop_of_length-le, length}
use Rattle.language.specs.Description.{facility_at}
use Rattle.language.specs.Layout.{facility_bytes, store_size_of}
use Rattle.store_geometry.specs.Places.{capped, capped-below, capped-most}
use Rattle.image_sections.specs.Declarations.{facility_meant}
use Rattle.run_references.proofs.PlaceLaws.{facility-known, name_of}
use Rattle.run_soundness.proofs.SizeLaws.{size-here}
use Rattle.run_soundness.proofs.sizes.store_size.Goals as goal

pub loop-n-init : goal.loop-n-init
loop-n-init c =
    (omega arith, λ d E h small. omega arith)

pub loop-n-preserved : goal.loop-n-preserved
unfolding facility_at
loop-n-preserved c = (
  rw c.cap-size.ensures (capped-most c.place_after.result),
  λ d E h small.
      let x = facility_meant (name_of h c.loop-n.n c.facility_at.result c.facility_at.ensures) c.facility_at.result in
      let n : c.loop-n.n < length d.facilities = rw h.count c.loop-n-test.true in
      let p : c.loop-n.n + 1 ≡ suc c.loop-n.n = omega arith in
      let s = size-here d.facilities c.loop-n.n x n (facility-known h c.loop-n.n c.facility_at.result c.facility_at.ensures) in
      let i = c.loop-n.invariant.1 d E h small in
      let z : c.cap-size.result ≡ c.loop-n.size + facility_bytes x =
      c.cap-size.ensures ∙ ap capped (c.place_after.ensures x (c.shape_of-shape.ensures (name_of h c.loop-n.n c.facility_at.result c.facility_at.ensures))) ∙ capped-below (c.loop-n.size + facility_bytes x) (omega (arith, s, i)) in
      rw p (omega (arith, s, i, z)),
)

pub returns : goal.returns
unfolding store_size_of
returns c =
    λ d E h small.
    let n : length d.facilities ≤ c.loop-n.n = rw h.count c.loop-n-test.false in
    omega (arith, ap store_size_of (drop_of_length-le d.facilities n), c.loop-n.invariant.1 d E h small)

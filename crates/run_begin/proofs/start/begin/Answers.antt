use mathlib.Core.List.{[]}
use mathlib.Core.Path.{◌≡◌, refl, ap, ◌∙◌}
use Prim.Native.Nat.{suc, ◌+◌, ◌≤◌, ◌<◌}
use native.Mathlib.Omega.{arith}
use lib.ListN.{length}
use Rattle.language.specs.Calls.{stimulus_size}
use Rattle.language.specs.Description.{Facility, is_computed}
use Rattle.image_sections.specs.Declarations.{facility_in, place_field_in}
use Rattle.run_begin.proofs.BeginLoop.{begun-long, left-all, left-more, left-none}
use Rattle.run_begin.proofs.BegunWords.{begin-over}
use Rattle.run_begin.proofs.start.begin.Goals as goal

pub loop-n-init : goal.loop-n-init
unfolding stimulus_size
loop-n-init c =
    (omega arith, refl, λ d E h r s. left-all d c.args.store.now c.args.stimulus.now (record { store = r; stimulus = s }))

pub overflow_add-at : goal.overflow_add-at
overflow_add-at c =
    omega (arith, c.loop-n.invariant.0, c.begin_at-at.ensures.0, c.requires)

pub loop-n-preserved : goal.loop-n-preserved
loop-n-preserved c =
    let p : c.loop-n.n + 1 ≡ suc c.loop-n.n = omega arith in (
      omega (arith, c.loop-n.invariant.0, c.begin_at-at.ensures.0),
      rw (c.begin_at-at.ensures.1 []).1 (begun-long (facility_in c.args.section.now c.loop-n.n []) (place_field_in c.args.section.now c.loop-n.n) c.loop-n.store c.args.stimulus.now c.loop-n.at ∙ c.loop-n.invariant.1),
      λ d E h r s.
          let k = (h.facilities c.loop-n.n).name in
          let f = facility_in c.args.section.now c.loop-n.n k in
          let n : c.loop-n.n < length d.facilities = rw h.count c.loop-n-test.true in
          rw ((c.begin_at-at.ensures.1 k).1, p, (c.begin_at-at.ensures.1 k).0)
          (left-more d c.args.store.now c.args.stimulus.now c.loop-n.store c.loop-n.n c.loop-n.at f (place_field_in c.args.section.now c.loop-n.n) n (h.facilities c.loop-n.n).is (λ q. h.places c.loop-n.n n (ap (λ (y : Facility). is_computed y.kind) (h.facilities c.loop-n.n).is ∙ q)) (c.loop-n.invariant.2 d E h r s)),
    )

pub shape_of-store : goal.shape_of-store
shape_of-store c =
    c.loop-n.invariant.1

pub returns : goal.returns
unfolding stimulus_size
returns c =
    λ d E h r s.
    let n : length d.facilities ≤ c.loop-n.n = rw h.count c.loop-n-test.false in
    left-none d c.args.store.now c.args.stimulus.now c.loop-n.store c.loop-n.n c.loop-n.at n (c.loop-n.invariant.2 d E h r s)
    ∙ begin-over d.facilities c.args.store.now c.args.stimulus.now (λ i. (c.slice_known-1.given i).fits) (λ i. (c.shared_slice_known-2-1.given i).fits) (record { store = r; stimulus = s })

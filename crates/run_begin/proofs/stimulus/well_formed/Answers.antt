use mathlib.Core.List.{List, []}
use mathlib.Core.Path.{◌≡◌, sym, ap, ◌∙◌}
use Prim.Native.Nat.{ℕ, suc, ◌+◌, ◌≤◌, ◌<◌}
use native.Mathlib.Omega.{arith}
use lib.ListN.{drop, drop_of_length-le, length}
use Rattle.language.specs.Description.{Facility}
use Rattle.image_sections.specs.Declarations.{facility_in}
use Rattle.run_begin.proofs.StimulusLaws.{bytes-some, facility-here, fits-none, fits-room, fits-some, well-all, well-more, well-none, well-stop, well_from}
use Rattle.run_begin.proofs.stimulus.well_formed.Goals as goal

pub loop-n-init : goal.loop-n-init
loop-n-init c =
    (omega arith, λ d E h. well-all d c.args.stimulus.now)

pub returns-in_default : goal.returns-in_default
returns-in_default c =
    λ d E h.
    let k = (h.facilities c.loop-n.n).name in
    let f = facility_in c.args.section.now c.loop-n.n k in
    let n : c.loop-n.n < length d.facilities = rw h.count c.loop-n-test.true in
    let e = facility-here d c.loop-n.n f n (h.facilities c.loop-n.n).is in
    sym (sym (c.loop-n.invariant.1 d E h) ∙ (ap (λ (fs : List Facility). well_from fs c.args.stimulus.now c.loop-n.at) e ∙ well-stop f (drop (suc c.loop-n.n) d.facilities) c.args.stimulus.now c.loop-n.at (fits-none _ _ (c.in_default.ensures k))))

pub overflow_add-at : goal.overflow_add-at
overflow_add-at c =
    let r = fits-room (facility_in c.args.section.now c.loop-n.n []) [] c.args.stimulus.now c.loop-n.at c.loop-n.invariant.0 (fits-some _ _ _ (c.in-Some.ensures [])) in
    omega (arith, r, bytes-some _ _ _ (c.in-Some.ensures []))

pub loop-n-preserved : goal.loop-n-preserved
loop-n-preserved c =
    let r = fits-room (facility_in c.args.section.now c.loop-n.n []) [] c.args.stimulus.now c.loop-n.at c.loop-n.invariant.0 (fits-some _ _ _ (c.in-Some.ensures [])) in (
      omega (arith, r, bytes-some _ _ _ (c.in-Some.ensures [])),
      λ d E h.
          let k = (h.facilities c.loop-n.n).name in
          let f = facility_in c.args.section.now c.loop-n.n k in
          let n : c.loop-n.n < length d.facilities = rw h.count c.loop-n-test.true in
          let e = facility-here d c.loop-n.n f n (h.facilities c.loop-n.n).is in
          let p : c.loop-n.n + 1 ≡ suc c.loop-n.n = omega arith in
          ap (λ (m : ℕ). well_from (drop m d.facilities) c.args.stimulus.now (c.loop-n.at + c.in-Some.bytes)) p
          ∙ (ap (λ (m : ℕ). well_from (drop (suc c.loop-n.n) d.facilities) c.args.stimulus.now (c.loop-n.at + m)) (bytes-some _ _ _ (c.in-Some.ensures k))
          ∙ (sym (ap (λ (fs : List Facility). well_from fs c.args.stimulus.now c.loop-n.at) e ∙ well-more f (drop (suc c.loop-n.n) d.facilities) c.args.stimulus.now c.loop-n.at (fits-some _ _ _ (c.in-Some.ensures k))) ∙ c.loop-n.invariant.1 d E h)),
    )

pub returns : goal.returns
returns c =
    λ d E h.
    let n : length d.facilities ≤ c.loop-n.n = rw h.count c.loop-n-test.false in
    sym (well-none c.args.stimulus.now c.loop-n.at) ∙ (ap (λ (fs : List Facility). well_from fs c.args.stimulus.now c.loop-n.at) (sym (drop_of_length-le d.facilities n)) ∙ c.loop-n.invariant.1 d E h)

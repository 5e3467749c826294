use mathlib.Core.Path.{◌≡◌, sym, ap, ◌∙◌}
use Prim.Native.Nat.{ℕ, ◌-◌}
use native.Mathlib.Omega.{arith}
use lib.ListN.{drop}
use Rattle.language.specs.Calls.{all_well_formed, well_formed}
use Rattle.run_begin.proofs.FormLaws.{ill-formed, none_left, none-there, one_more}
use Rattle.run_begin.proofs.formed.all_well_formed.Goals as goal
use Rattle.run_begin.proofs.formed.all_well_formed.Goals.{then-stimuli-at-via-then-stimuli-at, then-stimuli-at-via-else-stimuli-at+then-not-well_formed}

pub loop-init : goal.loop-init
loop-init c =
    let e : c.args.cycles - 0 ≡ c.args.cycles = omega arith in
    (omega arith, λ d E h. ap (λ (m : ℕ). all_well_formed d m c.args.stimuli.now) e)

pub overflow_sub-stimuli : goal.overflow_sub-stimuli
overflow_sub-stimuli c = c.loop.invariant.0

pub returns-then-stimuli-at : goal.returns-then-stimuli-at
returns-then-stimuli-at c =
    λ d E h.
    elim c.then-stimuli-at.branch [
      | then-stimuli-at-via-then-stimuli-at w ↦ none-there d c.args.stimuli.now c.args.cycles c.share-each.result c.loop.counter c.loop.at c.share-each.ensures c.loop-test.true (c.loop.invariant.1 d E h) w.if-stimuli-at.true
      | then-stimuli-at-via-else-stimuli-at+then-not-well_formed w ↦
          ill-formed d c.args.stimuli.now c.args.cycles c.share-each.result c.loop.counter c.loop.at c.share-each.ensures c.loop-test.true (c.loop.invariant.1 d E h)
          (ap (well_formed d) (sym w.part.ensures) ∙ (sym (w.well_formed-else-stimuli-at.ensures d E h) ∙ w.if-not-well_formed.true))
    ]

pub overflow_add-at : goal.overflow_add-at
overflow_add-at c = omega (arith, c.if-stimuli-at.false, c.loop.invariant.0)

pub loop-preserved : goal.loop-preserved
loop-preserved c = (
  omega (arith, c.if-stimuli-at.false, c.loop.invariant.0),
  λ d E h.
      let w = ap (well_formed d) (sym c.part.ensures) ∙ (sym (c.well_formed-else-stimuli-at.ensures d E h) ∙ c.if-not-well_formed.false) in
      one_more d c.args.stimuli.now c.args.cycles c.share-each.result c.loop.counter c.loop.at c.share-each.ensures c.loop-test.true (c.loop.invariant.1 d E h) c.if-stimuli-at.false w,
)

pub returns : goal.returns
returns c =
    λ d E h.
    let z : c.args.cycles - c.loop.counter ≡ 0 = omega (arith, c.loop-test.false) in
    sym (none_left d c.args.stimuli.now c.loop.at c.loop.invariant.0) ∙ (ap (λ (k : ℕ). all_well_formed d k (drop c.loop.at c.args.stimuli.now)) (sym z) ∙ c.loop.invariant.1 d E h)

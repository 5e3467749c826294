use Rattle.judge_all.proofs.FacilityLaws.{remember-all, remember-first, remember-next, remember-same, start, step, stop}
use Rattle.text_words.specs.Meaning.{judged}
use Rattle.language.specs.Description.{facility_at}
use native.Mathlib.Omega.{arith}
use mathlib.Core.Path.{refl, ◌∙◌}
use mathlib.Core.Bool.{◌||◌}
use Rattle.judge_all.proofs.facilities.facilities.Goals as goal

pub loop-n-init : goal.loop-n-init
loop-n-init c = (refl, λ d p s. (start d p, remember-first _ _ d p))

pub terminal-v-requires : goal.terminal-v-requires
terminal-v-requires c =
    (c.loop-n-test.true, c.facility_at-f.ensures, omega (arith, c.loop-n.invariant.0, c.requires))

pub remember-requires : goal.remember-requires
remember-requires c =
    omega (arith, c.terminal-v.ensures.0, c.loop-n.invariant.0, c.requires)

pub loop-n-preserved : goal.loop-n-preserved
loop-n-preserved c = (
  c.remember.ensures.0 ∙ c.terminal-v.ensures.0 ∙ c.loop-n.invariant.0,
  λ d p s.
      let i = c.loop-n.invariant.1 d p s in
      let f = s.facility c.loop-n.n c.loop-n-test.true c.facility_at-f.result c.facility_at-f.ensures in
      let v = c.terminal-v.ensures.2 d p s i.1 in (
        step d p s c.loop-n.n c.facility_at-f.result (judged c.loop-n.all) (judged c.one.result) c.loop-n.another (c.loop-n.another || c.is_sequencing-another.result) c.is_sequencing-another.result c.loop-n.before c.place_after-before.result f c.loop-n-test.true c.earlier-all.ensures (c.one.ensures d p (s.place c.loop-n.n) f v) (c.place_after-before.ensures (facility_at d c.loop-n.n).name) refl c.is_sequencing-another.ensures i.0,
        remember-next s (remember-same _ c.terminal-v.ensures.1 i.1) v c.remember.ensures.1 c.remember.ensures.2,
      ),
)

pub returns : goal.returns
returns c =
    (c.loop-n.invariant.0, λ d p s. (stop d p s c.loop-n.n (judged c.loop-n.all) c.loop-n.another c.loop-n.before c.loop-n-test.false (c.loop-n.invariant.1 d p s).0, remember-all s (omega arith) c.loop-n-test.false (c.loop-n.invariant.1 d p s).1))

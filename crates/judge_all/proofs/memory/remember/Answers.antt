use native.Mathlib.Omega.{arith}
use mathlib.Core.Path.{refl}
use Rattle.judge_all.proofs.memory.remember.Goals as goal

pub returns-then-n-gt255 : goal.returns-then-n-gt255
returns-then-n-gt255 c =
    (refl, λ h. absurd (omega (arith, c.if-n-gt255.true)), λ i h k. refl)

pub keep-requires : goal.keep-requires
keep-requires c =
    omega (arith, c.requires, c.if-n-gt255.false)

pub returns : goal.returns
returns c =
    (c.keep.ensures.size, λ h. c.keep.ensures.here, λ i h k. c.keep.ensures.others i h)

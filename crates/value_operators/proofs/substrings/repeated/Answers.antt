use mathlib.Core.Path.{◌≡◌, refl, sym, ap, ◌∙◌}
use Prim.Native.Nat.{ℕ, ◌+◌, ◌*◌, ◌%◌, ◌^◌}
use native.Mathlib.Omega.{arith}
use native.Mathlib.Numerals.{add-one}
use Rattle.language.specs.Value.{repeated}
use Rattle.value_limbs.specs.Limbs.{number}
use Rattle.value_operators.proofs.Fits.{repeated-more}
use Rattle.value_operators.proofs.substrings.repeated.Goals as goal

pub loop-init : goal.loop-init
unfolding number repeated
loop-init c = refl

pub loop-preserved : goal.loop-preserved
loop-preserved c =
    let l = c.loop in
    let m = c.args.m in
    let x = number c.args.x in
    c.joined-more.ensures ∙ ap (λ (n : ℕ). (n * 2 ^ m + x) % 2 ^ 256) l.invariant ∙ repeated-more m x l.counter (2 ^ 256)
    ∙ ap (λ (k : ℕ). repeated m x k % 2 ^ 256) (sym (add-one l.counter))

pub returns : goal.returns
returns c =
    let e : c.loop.counter ≡ c.args.c = omega arith in
    c.loop.invariant ∙ ap (λ (k : ℕ). repeated c.args.m (number c.args.x) k % 2 ^ 256) e

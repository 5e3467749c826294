use mathlib.Core.Path.{◌≡◌, sym, ap, ◌∙◌}
use Prim.Native.Nat.{ℕ, suc, ◌+◌, ◌-◌, ◌/◌}
use native.Mathlib.Omega.{arith}
use lib.ListN.{length}
use Rattle.language.specs.Description as D
use Rattle.language.specs.Description.{Description}
use Rattle.language.specs.Encode.{state_size}
use Rattle.language.specs.Step as S
use Rattle.value_limbs.specs.Limbs.{number}
use Rattle.run_next.proofs.NextLaws.{bearer-here, bearer-later}
use Rattle.run_next.proofs.bearer.bearer.Goals as goal

pub loop-n-init : goal.loop-n-init
loop-n-init c =
    (λ d h. let k : ℕ = length c.args.section.now / state_size in let e : k - 0 ≡ k = omega arith in rw e)

pub returns-then-bears : goal.returns-then-bears
returns-then-bears c =
    λ d h.
    let k : ℕ = length c.args.section.now / state_size in
    let e : k - c.loop-n.n ≡ suc (k - c.loop-n.n - 1) = omega arith in
    let s = h.states c.loop-n.n in
    let v = ap (λ (y : D.State). y.value) (s.is ∙ sym (c.state_at.ensures.meaning s.name)) in
    let b = sym (c.bears.ensures d c.args.section.now c.loop-n.n h v) ∙ c.if-bears.true in
    bearer-here d (number c.args.x.limbs) c.loop-n.n (k - c.loop-n.n) (k - c.loop-n.n - 1) e b ∙ c.loop-n.invariant d h

pub loop-n-preserved : goal.loop-n-preserved
loop-n-preserved c =
    λ d h.
    let k : ℕ = length c.args.section.now / state_size in
    let e : k - c.loop-n.n ≡ suc (k - c.loop-n.n - 1) = omega arith in
    let m : k - (c.loop-n.n + 1) ≡ k - c.loop-n.n - 1 = omega arith in
    let p : c.loop-n.n + 1 ≡ suc c.loop-n.n = omega arith in
    let s = h.states c.loop-n.n in
    let v = ap (λ (y : D.State). y.value) (s.is ∙ sym (c.state_at.ensures.meaning s.name)) in
    let b = sym (c.bears.ensures d c.args.section.now c.loop-n.n h v) ∙ c.if-bears.false in
    rw (m, p) (sym (bearer-later d (number c.args.x.limbs) c.loop-n.n (k - c.loop-n.n) (k - c.loop-n.n - 1) e b) ∙ c.loop-n.invariant d h)

pub returns : goal.returns
unfolding S.bearer
returns c =
    λ d h.
    let k : ℕ = length c.args.section.now / state_size in
    let e : 0 ≡ k - c.loop-n.n = omega arith in
    ap (λ (i : ℕ). S.bearer d i c.loop-n.n (number c.args.x.limbs)) e ∙ c.loop-n.invariant d h

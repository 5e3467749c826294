use mathlib.Core.Path.{◌≡◌, refl, sym, ap, ◌∙◌}
use Prim.Native.Nat.{suc, ◌+◌, ◌≤◌, ◌<◌}
use native.Mathlib.Omega.{arith}
use lib.ListN.{length}
use Rattle.language.specs.Description as D
use Rattle.language.specs.Description.{Description, is_sequencing, sequencing_from, sequencing_of}
use Rattle.run_next.proofs.RegisterLaws.{register-here, register-later, register-none}
use Rattle.run_next.proofs.register.sequencing.Goals as goal

pub loop-n-init : goal.loop-n-init
unfolding sequencing_of
loop-n-init c =
    (λ d E h. refl)

pub returns-then-is_sequencing : goal.returns-then-is_sequencing
returns-then-is_sequencing c =
    λ d E h.
    let n : c.loop-n.n < length d.facilities = rw h.count c.loop-n-test.true in
    let k = ap (λ (y : D.Facility). is_sequencing y.kind) (h.facilities c.loop-n.n).is ∙ (ap is_sequencing (sym (c.kind_at.ensures (h.facilities c.loop-n.n).name)) ∙ (sym c.is_sequencing.ensures ∙ c.if-is_sequencing.true)) in
    sym (register-here d c.loop-n.n n k) ∙ c.loop-n.invariant d E h

pub loop-n-preserved : goal.loop-n-preserved
loop-n-preserved c =
    λ d E h.
    let n : c.loop-n.n < length d.facilities = rw h.count c.loop-n-test.true in
    let p : c.loop-n.n + 1 ≡ suc c.loop-n.n = omega arith in
    let k = ap (λ (y : D.Facility). is_sequencing y.kind) (h.facilities c.loop-n.n).is ∙ (ap is_sequencing (sym (c.kind_at.ensures (h.facilities c.loop-n.n).name)) ∙ (sym c.is_sequencing.ensures ∙ c.if-is_sequencing.false)) in
    rw p (sym (register-later d c.loop-n.n n k) ∙ c.loop-n.invariant d E h)

pub returns : goal.returns
returns c =
    λ d E h.
    let n : length d.facilities ≤ c.loop-n.n = rw h.count c.loop-n-test.false in
    sym (register-none d c.loop-n.n n) ∙ c.loop-n.invariant d E h

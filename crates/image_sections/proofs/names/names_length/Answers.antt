use mathlib.Core.Path.{◌≡◌}
use Prim.Native.Nat.{ℕ, ◌+◌, ◌*◌}
use native.Mathlib.Omega.{arith}
use Rattle.image_sections.proofs.NameLaws.{names-start, names-next, names-end}
use Rattle.image_sections.proofs.names.names_length.Goals as goal

pub loop-i-init : goal.loop-i-init
loop-i-init c =
    let e : c.args.inside + c.args.size * 0 ≡ c.args.inside = omega arith in
    (omega arith, rw e (names-start c.args.n c.args.inside c.args.size c.args.s.now))

pub loop-i-preserved : goal.loop-i-preserved
loop-i-preserved c =
    let at : ℕ = c.args.inside + c.args.size * c.loop-i.i in
    let n = names-next c.args.n c.loop-i.i at c.args.size c.loop-i.sum c.args.s.now c.loop-i-test.true c.byte.ensures c.loop-i.invariant.1 in
    let e : c.args.inside + c.args.size * (c.loop-i.i + 1) ≡ at + c.args.size = omega arith in
    (omega arith, rw e n)

pub returns : goal.returns
returns c =
    (names-end c.args.n c.loop-i.i (c.args.inside + c.args.size * c.loop-i.i) c.args.size c.loop-i.sum c.args.s.now c.loop-i-test.false c.loop-i.invariant.1, omega arith)

use mathlib.Core.Path.{◌≡◌}
use Prim.Native.Nat.{ℕ, ◌+◌, ◌*◌}
use mathlib.Core.Path.{sym, ap, ◌∙◌}
use native.Mathlib.Omega.{arith}
use borrow.Author.Tests.{not-false, not-true}
use Rattle.language.specs.Canonical.{name_right}
use Rattle.image_sections.proofs.NameLaws as Lengths
use Rattle.image_form.proofs.LabelLaws.{names-end, names-next, names-not, names-start}
use borrow.Author.Rules.{rules}
use Rattle.image_form.proofs.labels.names_end.Goals as goal

pub loop-i-init : goal.loop-i-init
loop-i-init c =
    let e : c.args.inside + c.args.size * 0 ≡ c.args.inside = omega arith in
    (search rules, rw e (names-start c.args.n c.args.inside c.args.size c.args.s.now c.args.names.now), rw e (Lengths.names-start c.args.n c.args.inside c.args.size c.args.s.now))

pub returns-then-not-name_right : goal.returns-then-not-name_right
returns-then-not-name_right c =
    let at : ℕ = c.args.inside + c.args.size * c.loop-i.i in
    let e = sym c.loop-i.invariant.1 ∙ names-not c.args.n c.loop-i.i at c.args.size c.loop-i.from c.byte-length.result c.args.s.now c.args.names.now c.loop-i-test.true c.byte-length.ensures (ap name_right (sym c.part.ensures) ∙ sym c.name_right.ensures ∙ not-true _ c.if-not-name_right.true-raw) in
    rw e

pub loop-i-preserved : goal.loop-i-preserved
loop-i-preserved c =
    let at : ℕ = c.args.inside + c.args.size * c.loop-i.i in
    let e : c.args.inside + c.args.size * (c.loop-i.i + 1) ≡ at + c.args.size = omega arith in
    let right = names-next c.args.n c.loop-i.i at c.args.size c.loop-i.from c.byte-length.result c.args.s.now c.args.names.now c.loop-i-test.true c.byte-length.ensures (ap name_right (sym c.part.ensures) ∙ sym c.name_right.ensures ∙ not-false _ c.if-not-name_right.false-raw) in
    (search rules, rw e (sym right ∙ c.loop-i.invariant.1), rw e (Lengths.names-next c.args.n c.loop-i.i at c.args.size c.loop-i.from c.args.s.now c.loop-i-test.true c.byte-length.ensures c.loop-i.invariant.2))

pub returns : goal.returns
returns c =
    let at : ℕ = c.args.inside + c.args.size * c.loop-i.i in
    let e = sym c.loop-i.invariant.1 ∙ names-end c.args.n c.loop-i.i at c.args.size c.args.s.now _ (omega (arith, c.loop-i-test.false)) in
    let l = Lengths.names-end c.args.n c.loop-i.i at c.args.size c.loop-i.from c.args.s.now c.loop-i-test.false c.loop-i.invariant.2 in
    rw (e, ← l)

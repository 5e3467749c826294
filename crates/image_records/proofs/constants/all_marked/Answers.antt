use mathlib.Core.Path.{sym, ap₂, ◌∙◌}
use Prim.Native.Nat.{ℕ, ◌-◌}
use native.Mathlib.Omega.{arith}
use Rattle.language.specs.Decode.{digits_marked}
use Rattle.image_records.proofs.DigitLaws.{marked-here, marked-not, marked-none, marked_all}
use Rattle.image_records.proofs.constants.all_marked.Goals as goal
use Rattle.image_records.proofs.constants.all_marked.Goals.{then-n-i-via-then-n-i, then-n-i-via-else-n-i+then-exprs-n-ne-MORE}

pub returns-then-n-i : goal.returns-then-n-i
returns-then-n-i c =
    let k : ℕ = c.args.k - c.loop-i.i in
    let n : ℕ = c.args.n - c.loop-i.i in
    elim c.then-n-i.branch [
      | then-n-i-via-then-n-i w ↦ sym (marked-none k n c.args.exprs.now (omega arith) (omega arith)) ∙ c.loop-i.invariant
      | then-n-i-via-else-n-i+then-exprs-n-ne-MORE w ↦ sym (marked-not k n c.args.exprs.now (omega arith) (omega arith) w.if-exprs-n-ne-MORE.true) ∙ c.loop-i.invariant
    ]

pub loop-i-preserved : goal.loop-i-preserved
loop-i-preserved c =
    let k : ℕ = c.args.k - c.loop-i.i in
    let n : ℕ = c.args.n - c.loop-i.i in
    let m = marked-here k n c.args.exprs.now (omega arith) (omega arith) c.if-exprs-n-ne-MORE.false in
    ap₂ (λ (a b : ℕ). digits_marked a b c.args.exprs.now) (omega arith) (omega arith) ∙ sym m ∙ c.loop-i.invariant

pub returns : goal.returns
returns c = sym (marked_all (c.args.k - c.loop-i.i) (c.args.n - c.loop-i.i) c.args.exprs.now (omega arith)) ∙ c.loop-i.invariant

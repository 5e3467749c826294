use mathlib.Core.Path.{◌≡◌, sym, ap, ◌∙◌}
use Prim.Native.Nat.{ℕ}
use native.Mathlib.Omega.{arith}
use lib.ListN.{length}
use Rattle.parse_held.proofs.LetterLaws.{letters-all, letters-none, counted-more, letters_to}
use Rattle.parse_held.proofs.letters.count.Goals as goal

pub loop-k-init : goal.loop-k-init
loop-k-init c =
    (omega arith, omega arith, λ e. sym (ap length (letters-none c.args.text.now c.args.table c.args.n c.args.work.now)))

pub loop-k-preserved : goal.loop-k-preserved
loop-k-preserved c =
    (omega arith, omega (arith, c.word.ensures.1), λ e. omega (arith, c.loop-k.invariant.2 e, counted-more c.args.text.now c.args.table c.args.n c.args.work.now c.loop-k.k c.word.result.now (c.word.ensures.0 c.args.n e c.loop-k-test.true)))

pub returns : goal.returns
returns c =
    let z : c.loop-k.k ≡ c.args.n = omega arith in
    (λ e. c.loop-k.invariant.2 e ∙ ap (λ (j : ℕ). length (letters_to c.args.text.now c.args.table c.args.n c.args.work.now j)) z ∙ ap length (letters-all c.args.text.now c.args.table c.args.n c.args.work.now), omega arith)

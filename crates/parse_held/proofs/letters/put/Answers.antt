use mathlib.Core.Path.{◌≡◌, refl, ap, ◌∙◌}
use native.Mathlib.Omega.{arith}
use lib.ListN.{length}
use mathlib.Core.List.{map}
use Rattle.language.specs.Characters.{folded}
use Rattle.image_records.proofs.ByteLaws.{placed-length}
use Rattle.parse_held.proofs.LetterLaws.{counted-more, letters-all, letters-none, put-more, put-none}
use Rattle.parse_held.proofs.letters.put.Goals as goal

pub loop-k-init : goal.loop-k-init
loop-k-init c =
    (omega arith, refl, omega arith, λ e. omega (arith, ap length (letters-none c.args.text.now c.args.table c.args.n c.args.work.now)), λ e h. put-none c.args.text.now c.args.table c.args.n c.args.work.now c.args.s.now c.args.at (omega arith))

pub loop-k-preserved : goal.loop-k-preserved
loop-k-preserved c =
    (omega arith, ap length c.put_word.ensures ∙ placed-length c.loop-k.s (map folded c.word-word.result.now) c.loop-k.to ∙ c.loop-k.invariant.1, omega (arith, c.word-word.ensures.1), λ e. omega (arith, c.loop-k.invariant.3 e, counted-more c.args.text.now c.args.table c.args.n c.args.work.now c.loop-k.k c.word-word.result.now (c.word-word.ensures.0 c.args.n e c.loop-k-test.true)), λ e h. put-more c.args.text.now c.args.table c.args.n c.args.work.now c.args.s.now c.args.at c.loop-k.k c.word-word.result.now c.loop-k-test.true h (c.loop-k.invariant.3 e) (c.loop-k.invariant.4 e h) (c.word-word.ensures.0 c.args.n e c.loop-k-test.true) c.put_word.ensures)

pub returns : goal.returns
returns c =
    let z : c.loop-k.k ≡ c.args.n = omega arith in (λ e. c.loop-k.invariant.3 e ∙ rw (z, letters-all c.args.text.now c.args.table c.args.n c.args.work.now), omega arith, λ e h. c.loop-k.invariant.4 e h ∙ rw (z, letters-all c.args.text.now c.args.table c.args.n c.args.work.now))

use Prim.Native.Nat.{◌≤◌, ◌+◌}
use native.Mathlib.Omega.{arith}
use lib.ListN.{length, length-map}
use Rattle.language.specs.Characters.{folded}
use Rattle.image_records.proofs.ByteLaws.{placed-nothing}
use Rattle.parse_held.proofs.LetterLaws.{folded-all, folded_more}
use Rattle.parse_held.proofs.letters.put_word.Goals as goal

pub returns-then-s-at : goal.returns-then-s-at
returns-then-s-at c =
    placed-nothing _ _ _ (omega (arith, length-map c.args.word.now folded))

pub loop-i-preserved : goal.loop-i-preserved
loop-i-preserved c =
    let h : c.args.at + length c.args.word.now ≤ length c.args.s.now = omega arith in (omega arith, folded_more c.args.s.now c.args.word.now c.args.at c.loop-i.i c.loop-i.invariant.1 h c.loop-i-test.true c.fold.ensures)

pub returns : goal.returns
returns c =
    let h : c.args.at + length c.args.word.now ≤ length c.args.s.now = omega arith in folded-all c.args.s.now c.args.word.now c.args.at c.loop-i.i c.loop-i.invariant.1 h (omega arith)

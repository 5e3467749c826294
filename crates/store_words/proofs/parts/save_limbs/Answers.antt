use mathlib.Core.Path.{sym, ◌∙◌}
use native.Mathlib.Omega.{arith}
use Rattle.value_limbs.proofs.Laws.{Below}
use Rattle.store_words.proofs.PartLaws.{save-lowest}
use borrow.Author.Rules.{rules}
use Rattle.store_words.proofs.parts.save_limbs.Goals as goal

pub returns-then-count-le64 : goal.returns-then-count-le64
returns-then-count-le64 c =
    let below : Below c.args.v = (search rules) in
    c.put.ensures
    ∙ sym (save-lowest c.args.s.now c.args.at c.args.length c.args.low c.args.count c.args.v c.requires.0 (λ i. (c.slice_known-1.given i).fits) c.requires.1 (omega arith) below)

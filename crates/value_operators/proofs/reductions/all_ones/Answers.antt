use mathlib.Core.Path.{sym, ap, ◌∙◌}
use Prim.Native.Nat.{ℕ, ◌-◌, ◌%◌, ◌^◌}
use lib.Dec.{eqb}
use lib.Pow.{pow-lt}
use borrow.Author.Tests.{lt-leb, ne_eqb}
use Rattle.value_limbs.specs.Limbs.{number}
use Rattle.value_limbs.proofs.Laws.{four-lt}
use Rattle.value_operators.proofs.Fits.{ones_low}
use Rattle.value_operators.proofs.Tests.{past}
use borrow.Author.Rules.{rules}
use Rattle.value_operators.proofs.reductions.all_ones.Goals as goal

pub returns-then-m-le-LONGEST : goal.returns-then-m-le-LONGEST
returns-then-m-le-LONGEST c =
    let m = c.args.x.length in
    c.same.ensures ∙ ap (eqb (number c.args.x.limbs)) (c.low.ensures ∙ ap (λ (n : ℕ). n % 2 ^ m) c.full.ensures ∙ ones_low m c.if-m-le-LONGEST.true)

pub returns-else-m-le-LONGEST : goal.returns-else-m-le-LONGEST
returns-else-m-le-LONGEST c =
    let x = c.args.x in
    lt-leb x.length 256 c.if-m-le-LONGEST.false
    ∙ sym (ne_eqb (number x.limbs) (2 ^ x.length - 1) (past (four-lt {x = x.limbs} (search rules)) (pow-lt c.if-m-le-LONGEST.false)))

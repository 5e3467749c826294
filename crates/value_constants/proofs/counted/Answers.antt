use mathlib.Core.Bool.{Bool, cond}
use mathlib.Core.Path.{sym, ap, ◌∙◌}
use Prim.Native.Nat.{min, ◌<◌, ◌≤◌}
use native.Mathlib.Nat.{min-eq_left, min-eq_right, le_of_lt}
use native.Mathlib.Omega.{arith}
use lib.Dec.{ltb}
use borrow.Author.Tests.{ltb-true, ltb-false}
use Rattle.language.specs.Ceilings.{bare_largest}
use Rattle.value_limbs.specs.Limbs.{number}
use Rattle.value_constants.specs.Digits.{counting}
use Rattle.value_limbs.proofs.Laws.{four-small}
use borrow.Author.Rules.{rules}
use Rattle.value_constants.proofs.counted.Goals as goal

pub returns-then-x : goal.returns-then-x
unfolding counting bare_largest
returns-then-x c =
    sym (ap (λ (b : Bool). cond b 65536 (min (number c.args.x.limbs) 65536)) c.if-x.true)

pub overflow_cast-result : goal.overflow_cast-result
overflow_cast-result c =
    let n = number c.args.x.limbs in
    let small : n < 65536 = ltb-true n 65536 (sym (c.less.ensures ∙ ap (ltb n) c.small.ensures) ∙ c.if-less.true) in
    omega (arith, four-small c.args.x.limbs (search rules) (omega arith))

pub returns-then-less : goal.returns-then-less
unfolding counting bare_largest
returns-then-less c =
    let n = number c.args.x.limbs in
    let small : n < 65536 = ltb-true n 65536 (sym (c.less.ensures ∙ ap (ltb n) c.small.ensures) ∙ c.if-less.true) in
    four-small c.args.x.limbs (search rules) (omega arith) ∙ sym (min-eq_left (le_of_lt small)) ∙ sym (ap (λ (b : Bool). cond b 65536 (min n 65536)) c.if-x.false)

pub returns-else-less : goal.returns-else-less
unfolding counting bare_largest
returns-else-less c =
    let n = number c.args.x.limbs in
    let large : 65536 ≤ n = ltb-false n 65536 (sym (c.less.ensures ∙ ap (ltb n) c.small.ensures) ∙ c.if-less.false) in
    sym (min-eq_right large) ∙ sym (ap (λ (b : Bool). cond b 65536 (min n 65536)) c.if-x.false)

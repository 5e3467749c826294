use mathlib.Core.Path.{ap, ◌∙◌}
use Prim.Native.Nat.{ℕ, ◌+◌}
use native.Mathlib.Numerals.{add-one}
use lib.ListN.{drop}
use Rattle.language.specs.Scan.{decimal_at}
use Rattle.value_constants.specs.Digits.{held}
use Rattle.text_items.specs.Meaning.{meant}
use Rattle.text_items.proofs.Based.{decimal-here, decimal-none, taken-from}
use Rattle.text_items.proofs.constant.decimal_at.Goals as goal

pub returns-then-ds-eq0 : goal.returns-then-ds-eq0
returns-then-ds-eq0 c =
    let args = c.args in
    let digits-at = c.digits_at-ds in
    let if1 = c.if-ds-eq0 in
    ap (meant args.text.now) c.plain.ensures
    ∙ decimal-none args.l args.n (drop (args.n + 1) args.text.now) args.text.now digits-at.result.now (taken-from 10 (args.n + 1) args.text.now digits-at.result.now digits-at.ensures) if1.true
    ∙ ap (λ (i : ℕ). decimal_at args.l args.n (drop i args.text.now)) (add-one args.n)

pub returns : goal.returns
returns c =
    let args = c.args in
    let digits-at = c.digits_at-ds in
    let decimal-constant = c.decimal_constant in
    let decimal = c.decimal in
    let if1 = c.if-ds-eq0 in
    ap (meant args.text.now) c.made.ensures
    ∙ decimal-here args.l args.n (drop (args.n + 1) args.text.now) args.text.now digits-at.result.now (taken-from 10 (args.n + 1) args.text.now digits-at.result.now digits-at.ensures) decimal-constant.result (held decimal.result) decimal.ensures if1.false decimal-constant.ensures.meaning
    ∙ ap (λ (i : ℕ). decimal_at args.l args.n (drop i args.text.now)) (add-one args.n)

use mathlib.Core.Path.{ap, ◌∙◌}
use Prim.Native.Nat.{◌*◌, ◌%◌, ◌^◌}
use lib.ListN.{drop}
use Rattle.value_constants.specs.Digits.{written}
use Rattle.text_items.specs.Meaning.{meant}
use Rattle.text_items.proofs.Based.{base-of, binary-none, left_here, right-here, taken-from}
use Rattle.text_items.proofs.constant.binary_from.Goals as goal

pub returns-then-ds-eq0 : goal.returns-then-ds-eq0
returns-then-ds-eq0 c =
    let args = c.args in
    let digits-at = c.digits_at-ds in
    let pre = c.requires in
    let if1 = c.if-ds-eq0 in
    ap (meant args.text.now) c.plain.ensures
    ∙ binary-none args.l args.start args.k (drop args.start args.text.now) args.text.now digits-at.result.now (base-of args.k (drop args.start args.text.now) digits-at.result.now pre.1 (taken-from ((1 * 2 ^ args.k) % 2 ^ 8) args.start args.text.now digits-at.result.now digits-at.ensures)) args.left if1.true

pub returns-then-left : goal.returns-then-left
returns-then-left c =
    let args = c.args in
    let digits-at = c.digits_at-ds in
    let pre = c.requires in
    let left-constant = c.left_constant in
    let binary = c.binary-x in
    let if1 = c.if-ds-eq0 in
    let if2 = c.if-left in
    ap (meant args.text.now) c.made.ensures
    ∙ left_here args.l args.start args.k (drop args.start args.text.now) args.text.now digits-at.result.now (base-of args.k (drop args.start args.text.now) digits-at.result.now pre.1 (taken-from ((1 * 2 ^ args.k) % 2 ^ 8) args.start args.text.now digits-at.result.now digits-at.ensures)) args.left left-constant.result (written binary.result) binary.ensures if1.false if2.true left-constant.ensures.meaning

pub returns-else-left : goal.returns-else-left
returns-else-left c =
    let args = c.args in
    let digits-at = c.digits_at-ds in
    let pre = c.requires in
    let right-constant = c.right_constant in
    let binary = c.binary-x in
    let if1 = c.if-ds-eq0 in
    let if2 = c.if-left in
    ap (meant args.text.now) c.made-else-left.ensures
    ∙ right-here args.l args.start args.k (drop args.start args.text.now) args.text.now digits-at.result.now (base-of args.k (drop args.start args.text.now) digits-at.result.now pre.1 (taken-from ((1 * 2 ^ args.k) % 2 ^ 8) args.start args.text.now digits-at.result.now digits-at.ensures)) args.left right-constant.result (written binary.result) binary.ensures if1.false if2.false right-constant.ensures.meaning

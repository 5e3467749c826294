use mathlib.Core.Path.{ap, ◌∙◌}
use borrow.Author.Tests.{eq-eqb, ne_eqb}
use Rattle.text_items.specs.Meaning.{meant}
use Rattle.text_items.proofs.Begin.{item-class, item-none}
use native.Mathlib.Omega.{arith}
use Rattle.text_items.proofs.items.item_at.Goals as goal

pub returns-then-text-eq0 : goal.returns-then-text-eq0
returns-then-text-eq0 c = ap (meant c.args.text.now) c.plain.ensures ∙ item-none c.args.text.now c.if-text-eq0.true

pub returns-then-class-eq-LETTER : goal.returns-then-class-eq-LETTER
returns-then-class-eq-LETTER c = c.name.ensures ∙ simp (eq-eqb _ _ c.if-class-eq-LETTER.true) at (item-class c.args.text.now c.class_of-class.result (omega arith) c.class_of-class.ensures)

pub returns-then-class-eq-DIGIT : goal.returns-then-class-eq-DIGIT
returns-then-class-eq-DIGIT c = c.constant_at.ensures ∙ simp (eq-eqb _ _ c.if-class-eq-DIGIT.true, ne_eqb _ _ c.if-class-eq-LETTER.false) at (item-class c.args.text.now c.class_of-class.result (omega arith) c.class_of-class.ensures)

pub returns-then-class-eq-BLANK : goal.returns-then-class-eq-BLANK
returns-then-class-eq-BLANK c =
    let args = c.args in
    let if4 = c.if-class-eq-BLANK in
    let if2 = c.if-class-eq-LETTER in
    let if3 = c.if-class-eq-DIGIT in
    let class_of = c.class_of-class in
    ap (meant args.text.now) c.plain-then-class-eq-BLANK.ensures
    ∙ simp (eq-eqb _ _ if4.true, ne_eqb _ _ if2.false, ne_eqb _ _ if3.false) at (item-class args.text.now class_of.result (omega arith) class_of.ensures)

pub returns-then-class-eq-QUOTE : goal.returns-then-class-eq-QUOTE
returns-then-class-eq-QUOTE c =
    let if5 = c.if-class-eq-QUOTE in
    let if2 = c.if-class-eq-LETTER in
    let if3 = c.if-class-eq-DIGIT in
    let if4 = c.if-class-eq-BLANK in
    let args = c.args in
    let class_of = c.class_of-class in
    c.comment.ensures
    ∙ simp (eq-eqb _ _ if5.true, ne_eqb _ _ if2.false, ne_eqb _ _ if3.false, ne_eqb _ _ if4.false) at (item-class args.text.now class_of.result (omega arith) class_of.ensures)

pub returns-then-class-eq-SYMBOL : goal.returns-then-class-eq-SYMBOL
returns-then-class-eq-SYMBOL c =
    let if6 = c.if-class-eq-SYMBOL in
    let if2 = c.if-class-eq-LETTER in
    let if3 = c.if-class-eq-DIGIT in
    let if4 = c.if-class-eq-BLANK in
    let if5 = c.if-class-eq-QUOTE in
    let args = c.args in
    let class_of = c.class_of-class in
    c.symbol.ensures
    ∙ simp (eq-eqb _ _ if6.true, ne_eqb _ _ if2.false, ne_eqb _ _ if3.false, ne_eqb _ _ if4.false, ne_eqb _ _ if5.false) at (item-class args.text.now class_of.result (omega arith) class_of.ensures)

pub returns : goal.returns
returns c =
    let args = c.args in
    let if2 = c.if-class-eq-LETTER in
    let if3 = c.if-class-eq-DIGIT in
    let if4 = c.if-class-eq-BLANK in
    let if5 = c.if-class-eq-QUOTE in
    let if6 = c.if-class-eq-SYMBOL in
    let class_of = c.class_of-class in
    ap (meant args.text.now) c.plain-2.ensures
    ∙ simp (ne_eqb _ _ if2.false, ne_eqb _ _ if3.false, ne_eqb _ _ if4.false, ne_eqb _ _ if5.false, ne_eqb _ _ if6.false) at (item-class args.text.now class_of.result (omega arith) class_of.ensures)

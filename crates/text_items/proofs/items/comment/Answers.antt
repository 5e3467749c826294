use mathlib.Core.Path.{ap, sym, ◌∙◌}
use Rattle.language.specs.Scan.{comment_at, in_comment}
use Rattle.text_characters.proofs.Counting.{span-le}
use Rattle.text_items.specs.Meaning.{meant}
use Rattle.text_items.proofs.Begin.{comment-closed, comment-open}
use native.Mathlib.Omega.{arith}
use Rattle.text_items.proofs.items.comment.Goals as goal

pub overflow_add-n : goal.overflow_add-n
overflow_add-n c = omega (arith, c.length_of-n.ensures, span-le in_comment c.rest-inside.result.now)

pub overflow_add-n-else-byte-eq34 : goal.overflow_add-n-else-byte-eq34
overflow_add-n-else-byte-eq34 c = omega (arith, c.length_of-n.ensures, span-le in_comment c.rest-inside.result.now)

pub returns-then-byte-eq34 : goal.returns-then-byte-eq34
returns-then-byte-eq34 c =
    let args = c.args in
    let rest = c.rest-inside in
    let length-of = c.length_of-n in
    let byte = c.byte in
    let if1 = c.if-byte-eq34 in
    ap (meant args.text.now) c.plain.ensures
    ∙ comment-closed rest.result.now length-of.result length-of.ensures (sym byte.ensures ∙ if1.true)
    ∙ ap comment_at rest.ensures

pub returns-else-byte-eq34 : goal.returns-else-byte-eq34
returns-else-byte-eq34 c =
    let args = c.args in
    let rest = c.rest-inside in
    let length-of = c.length_of-n in
    let if1 = c.if-byte-eq34 in
    let byte = c.byte in
    ap (meant args.text.now) c.plain-else-byte-eq34.ensures
    ∙ comment-open rest.result.now length-of.result length-of.ensures (λ e. if1.false (byte.ensures ∙ e))
    ∙ ap comment_at rest.ensures

use mathlib.Core.Path.{◌∙◌}
use borrow.Author.Tests.{eq-eqb, ne_eqb}
use Rattle.language.specs.Meaning as M
use Rattle.std.proofs.lemmas.Result.{err_from_is_err_and}
use Rattle.run_references.proofs.distances.located.Goals as goal

pub returns-in-Whole : goal.returns-in-Whole
unfolding M.located
returns-in-Whole c =
    λ ev name p q. rw (c.in-Whole.is, ← (c.word_length.ensures.1 name)) c.narrow.ensures

pub returns-in_err-d-in-One : goal.returns-in_err-d-in-One
unfolding M.located
returns-in_err-d-in-One c =
    λ ev name p q.
    let r = err_from_is_err_and c.from_residual.result c.from_residual.ensures.1 in
    let one = eq-eqb _ _ c.if-f-eq1.true in
    rw (c.in-One.is, one, r.1, r.2) ((rw (c.in-One.is, one, c.in_err-d-in-One.was) at p) _)

pub returns-in_ok-d-in-One : goal.returns-in_ok-d-in-One
unfolding M.located
returns-in_ok-d-in-One c =
    λ ev name p q.
    let one = eq-eqb _ _ c.if-f-eq1.true in
    rw (c.in-One.is, one) (c.narrow-in-One.ensures ∙ (rw (c.in-One.is, one, c.in_ok-d-in-One.was) at p) _)

pub returns-in_err-d-in-One-2 : goal.returns-in_err-d-in-One-2
unfolding M.located
returns-in_err-d-in-One-2 c =
    λ ev name p q.
    let r = err_from_is_err_and c.from_residual-in_err-d-in-One-2.result c.from_residual-in_err-d-in-One-2.ensures.1 in
    let two = ne_eqb _ _ c.if-f-eq1.false in
    rw (c.in-One-2.is, two, r.1, r.2) ((rw (c.in-One-2.is, two, c.in_err-d-in-One-2.was) at p) _)

pub returns-in_ok-d-in-One-2 : goal.returns-in_ok-d-in-One-2
unfolding M.located
returns-in_ok-d-in-One-2 c =
    λ ev name p q.
    let two = ne_eqb _ _ c.if-f-eq1.false in
    rw (c.in-One-2.is, two, ← (c.word_length-in-One-2.ensures.1 name)) (c.narrow-in-One-2.ensures ∙ (rw (c.in-One-2.is, two, c.in_ok-d-in-One-2.was) at p) _)

pub returns-in-Part : goal.returns-in-Part
unfolding M.located
returns-in-Part c =
    λ ev name p q. rw c.in-Part.is c.constant_part.ensures

pub returns-in_err-d-in-Two : goal.returns-in_err-d-in-Two
unfolding M.located
returns-in_err-d-in-Two c =
    λ ev name p q.
    let r = err_from_is_err_and c.from_residual-in_err-d-in-Two.result c.from_residual-in_err-d-in-Two.ensures.1 in
    rw (c.in-Two.is, r.1, r.2) ((rw (c.in-Two.is, c.in_err-d-in-Two.was) at p) _)

pub returns-in_err-e-in-Two : goal.returns-in_err-e-in-Two
unfolding M.located
returns-in_err-e-in-Two c =
    λ ev name p q.
    let r = err_from_is_err_and c.from_residual-in_err-e-in-Two.result c.from_residual-in_err-e-in-Two.ensures.1 in
    rw (c.in-Two.is, r.1, r.2) ((rw (c.in-Two.is, c.in_ok-d-in-Two.was, c.in_err-e-in-Two.was) at q) _ ∙ (rw (c.in-Two.is, c.in_ok-d-in-Two.was) at p) _)

pub returns-in_ok-e-in-Two : goal.returns-in_ok-e-in-Two
unfolding M.located
returns-in_ok-e-in-Two c =
    λ ev name p q.
    rw c.in-Two.is (c.narrow-in-Two.ensures ∙ ((rw (c.in-Two.is, c.in_ok-d-in-Two.was, c.in_ok-e-in-Two.was) at q) _ ∙ (rw (c.in-Two.is, c.in_ok-d-in-Two.was) at p) _))

pub returns-in_err-d-in-WordPart : goal.returns-in_err-d-in-WordPart
unfolding M.located
returns-in_err-d-in-WordPart c =
    λ ev name p q.
    let r = err_from_is_err_and c.from_residual-in_err-d-in-WordPart.result c.from_residual-in_err-d-in-WordPart.ensures.1 in
    rw (c.in-WordPart.is, r.1, r.2) ((rw (c.in-WordPart.is, c.in_err-d-in-WordPart.was) at p) _)

pub returns-in_ok-d-in-WordPart : goal.returns-in_ok-d-in-WordPart
unfolding M.located
returns-in_ok-d-in-WordPart c =
    λ ev name p q.
    rw c.in-WordPart.is (c.constant_part-in-WordPart.ensures ∙ (rw (c.in-WordPart.is, c.in_ok-d-in-WordPart.was) at p) _)

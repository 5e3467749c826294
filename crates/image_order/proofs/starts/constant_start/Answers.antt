use mathlib.Core.Path.{sym, ◌∙◌}
use Prim.Native.Nat.{◌-◌}
use native.Mathlib.Omega.{arith}
use borrow.Author.Tests.{not-false, not-true}
use Rattle.image_order.proofs.EdgeLaws.{edge-some}
use Rattle.image_order.proofs.StartLaws.{constant-starts, further-within}
use Rattle.image_order.proofs.starts.constant_start.Goals as goal

pub returns-then-not-constant_fits : goal.returns-then-not-constant_fits
returns-then-not-constant_fits c =
    λ d h. sym (constant-starts d c.args.exprs.now h (λ i. (c.shared_slice_known-1.given i).fits) c.args.n c.requires.is c.requires.here ∙ rw (sym (c.constant_fits.ensures c.requires.is c.requires.here) ∙ not-true _ c.if-not-constant_fits.true-raw))

pub overflow_sub-result : goal.overflow_sub-result
overflow_sub-result c =
    omega (arith, further-within c.args.exprs.now c.args.n c.args.l c.requires, c.further_digits-digits.ensures)

pub returns : goal.returns
returns c =
    λ d h. edge-some (c.args.n - c.further_digits-digits.result) ∙ sym (constant-starts d c.args.exprs.now h (λ i. (c.shared_slice_known-1.given i).fits) c.args.n c.requires.is c.requires.here ∙ rw (sym (c.constant_fits.ensures c.requires.is c.requires.here) ∙ not-false _ c.if-not-constant_fits.false-raw, c.requires.long, c.further_digits-digits.ensures))

use Rattle.std.proofs.Common.{ℕ, ◌*◌, length, ◌∙◌, arith}
use lib.ListN.{length-replicate}
use Rattle.trace_whole.proofs.LineLaws.{first-zeroes, small-stimulus, small-store}
use Rattle.trace_whole.proofs.line.turned.Goals as goal

pub overflow_mul-size : goal.overflow_mul-size
overflow_mul-size c =
    omega (arith, c.requires.1, small-store _ c.requires.0)

pub slice_bounds-scratch-end : goal.slice_bounds-scratch-end
slice_bounds-scratch-end c =
    omega (arith, c.requires.1, small-store _ c.requires.0)

pub line_done-requires : goal.line_done-requires
line_done-requires c =
    let b = small-store _ c.requires.0 in (
      c.requires.0,
      omega (arith, c.requires.1),
      first-zeroes 65536 (4 * length c.args.store.now) (omega (arith, c.requires.1, b)) ∙ omega (arith, c.requires.1),
      omega (arith, small-stimulus _ c.requires.0, length-replicate {A = ℕ} 16384 0),
    )

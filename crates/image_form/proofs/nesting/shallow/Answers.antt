use Prim.Native.Nat.{ℕ, ◌<◌}
use native.Mathlib.Omega.{arith}
use mathlib.Core.Path.{sym, ap, ◌∙◌}
use lib.ListN.{length, length-replicate, length-set}
use Rattle.image_form.specs.Depths.{depth_parts, noted}
use Rattle.image_form.proofs.DepthLaws.{all_noted, none-noted, nothing, one_more, refused, small-next}
use Rattle.image_form.proofs.nesting.shallow.Goals as goal

pub loop-n-init : goal.loop-n-init
loop-n-init c = (length-replicate {A = ℕ} 34816 0, λ i. rw (nothing 34816 i) (omega arith), λ d h. none-noted d 34816)

pub slice_bounds-depth-end : goal.slice_bounds-depth-end
slice_bounds-depth-end c = sym c.loop-n.invariant.0

pub depth-own-requires : goal.depth-own-requires
depth-own-requires c = c.loop-n.invariant.1

pub returns-then-own-gt-DEEPEST : goal.returns-then-own-gt-DEEPEST
returns-then-own-gt-DEEPEST c d h =
    refused d c.args.exprs.now h c.loop-n.n c.loop-n.depths (c.loop-n.invariant.2 d h) c.node_at.result c.node_at.ensures
    (c.depth-own.ensures ∙ ap (depth_parts (noted c.loop-n.depths)) c.parts_of.ensures) c.loop-n-test.true c.if-own-gt-DEEPEST.true

pub loop-n-preserved : goal.loop-n-preserved
loop-n-preserved c =
    let inside : c.loop-n.n < length c.loop-n.depths = omega (arith, c.loop-n.invariant.0, c.requires) in (
      length-set c.loop-n.depths c.loop-n.n c.depth-own.result ∙ c.loop-n.invariant.0,
      small-next c.loop-n.depths c.loop-n.n c.depth-own.result c.if-own-gt-DEEPEST.false c.loop-n.invariant.1 inside,
      λ d h. one_more d c.args.exprs.now h c.loop-n.n c.loop-n.depths (c.loop-n.invariant.2 d h) c.node_at.result c.node_at.ensures
          (c.depth-own.ensures ∙ ap (depth_parts (noted c.loop-n.depths)) c.parts_of.ensures) inside c.if-own-gt-DEEPEST.false,
    )

pub returns : goal.returns
returns c d h = all_noted d c.args.exprs.now h c.loop-n.n c.loop-n.depths (omega arith) (c.loop-n.invariant.2 d h)

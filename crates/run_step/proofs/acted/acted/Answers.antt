use mathlib.Core.Path.{refl}
use Rattle.run_end.specs.Stepped.{nothing_in}
use Rattle.run_step.proofs.acted.acted.Goals as goal

pub returns : goal.returns
returns c =
    λ d h k v room enough.
    let run = h.described in
    let e = rw (← (c.state_at.ensures.meaning (v.states c.args.number).name)) at (v.states c.args.number).is in
    rw (e) (c.run_actions.ensures d (nothing_in _ c.args.pending.now c.args.mask.now) h (rw (c.nothing.ensures, c.begin.ensures d _ run room enough) refl) k)

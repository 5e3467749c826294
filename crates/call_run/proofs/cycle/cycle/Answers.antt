use mathlib.Core.Path.{ap}
use lib.ListN.{length}
use Rattle.language.specs.Calls as L
use Rattle.about_bytes.specs.OneCycle.{one-counted}
use Rattle.call_run.proofs.CycleLaws.{from-run}
use Rattle.call_run.proofs.cycle.cycle.Goals as goal

pub single-requires : goal.single-requires
single-requires c =
    rw (ap (λ (x : L.RunCall). x.answer) c.run.ensures) (one-counted c.args.image.now c.args.store.now c.args.«record».now c.args.stimulus.now (length c.args.scratch.now))

pub returns : goal.returns
returns c =
    from-run c.args.image.now c.args.store.now c.args.«record».now c.args.stimulus.now (length c.args.scratch.now) c.run.result c.single.result c.single.ensures c.run.ensures

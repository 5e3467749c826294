use Rattle.trace_whole.proofs.RoomyLaws.{begun-whole}
use Rattle.trace_whole.proofs.roomy.begin_run.Goals as goal

pub returns : goal.returns
returns c =
    begun-whole _ _ _ _ _ _ _ c.begin_run.result c.requires.3 c.begin_run.ensures

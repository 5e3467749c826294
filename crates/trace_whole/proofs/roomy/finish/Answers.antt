use Rattle.std.proofs.Common.{refl}
use Rattle.trace_whole.proofs.RoomyLaws.{ended-whole}
use Rattle.trace_whole.proofs.roomy.finish.Goals as goal

pub returns : goal.returns
returns c =
    λ l e h. ended-whole _ c.requires.0.0 c.requires.3 refl (c.finish.ensures l e) h

use Rattle.std.proofs.Common.{refl}
use Rattle.trace_whole.proofs.RoomyLaws.{fed-whole}
use Rattle.trace_whole.proofs.roomy.byte.Goals as goal

pub returns : goal.returns
returns c =
    (c.byte.ensures.0, λ l e. fed-whole _ c.requires.0.0 c.requires.3 refl (c.byte.ensures.1 l e))

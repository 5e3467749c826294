use Rattle.value_operators.proofs.KindLaws.{cut-known}
use Rattle.value_operators.proofs.operators.is_cut.Goals as goal

pub returns : goal.returns
returns c =
    rw c.cut_length.ensures (cut-known _)

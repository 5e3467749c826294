use Rattle.value_operators.proofs.KindLaws.{binary-known}
use Rattle.value_operators.proofs.operators.is_binary.Goals as goal

pub returns : goal.returns
returns c =
    rw c.binary_length.ensures (binary-known _)

use Rattle.value_operators.proofs.KindLaws.{prefix-known}
use Rattle.value_operators.proofs.operators.is_prefix.Goals as goal

pub returns : goal.returns
returns c =
    rw c.prefix_length.ensures (prefix-known _)

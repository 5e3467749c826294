use Rattle.parse_actions.proofs.PlainLaws.{signed-not, signed-says}
use Rattle.parse_actions.proofs.signed.Goals as goal

pub returns-then-signs : goal.returns-then-signs
returns-then-signs c =
    signed-says c.kind_of.ensures c.signs.ensures c.if-signs.true c.signed.ensures

pub returns : goal.returns
returns c =
    signed-not c.refuse.ensures c.kind_of.ensures c.signs.ensures c.if-signs.false

use Rattle.parse_terminals.proofs.FunctionLaws.{plain-read}
use Rattle.parse_terminals.proofs.functions.plain.Goals as goal

pub returns : goal.returns
returns c = plain-read c.position.ensures

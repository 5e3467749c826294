use Rattle.parse_tables.proofs.MeaningLaws.{waits-for}
use Rattle.parse_tables.proofs.meaning.other.Goals as goal

pub returns-then-waits : goal.returns-then-waits
returns-then-waits c =
    λ h. waits-for c.args.text.now c.args.place c.args.length c.part-name.ensures c.if-waits.true h

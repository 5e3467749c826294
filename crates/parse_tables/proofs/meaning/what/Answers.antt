use Rattle.parse_tables.proofs.MeaningLaws.{as-facility, as-operation, as-other}
use Rattle.parse_tables.proofs.meaning.what.Goals as goal

pub returns-in-Some : goal.returns-in-Some
returns-in-Some c = as-facility c.args.text.now c.args.work.now c.args.n c.args.place c.args.length c.in-Some.ensures

pub returns-in-Some-operation : goal.returns-in-Some-operation
returns-in-Some-operation c =
    as-operation c.args.text.now c.args.work.now c.args.n c.args.place c.args.length c.in_default.ensures c.in-Some-operation.ensures

pub returns-in-None : goal.returns-in-None
returns-in-None c =
    as-other c.args.text.now c.args.work.now c.args.n c.args.place c.args.length c.other.result c.in_default.ensures c.in-None.ensures c.other.ensures

use mathlib.Core.Path.{sym}
use native.Mathlib.Omega.{arith}
use Rattle.call_read.proofs.LengthLaws.{lends, lends_long, lends_none}
use Rattle.call_read.proofs.described.lengths.sequencing_length.Goals as goal

pub returns-in-Some : goal.returns-in-Some
returns-in-Some c =
    lends c.sequencing_length.result c.in-Some.l (omega (arith, c.if-l-le-LONGEST.true)) (sym c.in-Some.is) c.rows_of-fs.ensures c.rows_of-fp.ensures c.sequencing_length.ensures

pub returns-in_default : goal.returns-in_default
returns-in_default c =
    lends_long c.sequencing_length.result c.in-Some.l c.if-l-le-LONGEST.false (sym c.in-Some.is) c.rows_of-fs.ensures c.rows_of-fp.ensures c.sequencing_length.ensures

pub returns-in_default-2 : goal.returns-in_default-2
returns-in_default-2 c =
    lends_none c.sequencing_length.result (sym c.in_default.is) c.rows_of-fs.ensures c.rows_of-fp.ensures c.sequencing_length.ensures

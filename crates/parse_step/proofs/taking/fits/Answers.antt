use Rattle.parse_step.proofs.Ceilings.{by-nesting, many-counted, many-facilities, many-operations, many-states}
use Rattle.language.specs.Machine.{Counts}
use Rattle.parse_step.specs.Course.{counts5}
use Rattle.parse_step.proofs.taking.fits.Goals as goal
use Rattle.parse_step.proofs.taking.fits.Goals.{then-s-gt-FACILITIES-via-then-s-gt-FACILITIES, then-s-gt-FACILITIES-via-else-s-gt-FACILITIES+then-s-gt-OPERATIONS, then-s-gt-FACILITIES-via-else-s-gt-FACILITIES+else-s-gt-OPERATIONS+then-s-gt-STATES, then-s-gt-FACILITIES-via-else-s-gt-FACILITIES+else-s-gt-OPERATIONS+else-s-gt-STATES+then-counted-gt-MOST_COUNTED}

pub returns-then-s-gt-FACILITIES : goal.returns-then-s-gt-FACILITIES
returns-then-s-gt-FACILITIES c =
    let n : Counts = counts5 c.args.s c.args.counted c.args.nesting in
    elim c.then-s-gt-FACILITIES.branch [
      | then-s-gt-FACILITIES-via-then-s-gt-FACILITIES w ↦ many-facilities n w.if-s-gt-FACILITIES.true
      | then-s-gt-FACILITIES-via-else-s-gt-FACILITIES+then-s-gt-OPERATIONS w ↦ many-operations n w.if-s-gt-FACILITIES.false w.if-s-gt-OPERATIONS.true
      | then-s-gt-FACILITIES-via-else-s-gt-FACILITIES+else-s-gt-OPERATIONS+then-s-gt-STATES w ↦ many-states n w.if-s-gt-FACILITIES.false w.if-s-gt-OPERATIONS.false w.if-s-gt-STATES.true
      | then-s-gt-FACILITIES-via-else-s-gt-FACILITIES+else-s-gt-OPERATIONS+else-s-gt-STATES+then-counted-gt-MOST_COUNTED w ↦ many-counted n w.if-s-gt-FACILITIES.false w.if-s-gt-OPERATIONS.false w.if-s-gt-STATES.false w.if-counted-gt-MOST_COUNTED.true
    ]

pub returns : goal.returns
returns c =
    by-nesting (counts5 c.args.s c.args.counted c.args.nesting) c.if-s-gt-FACILITIES.false c.if-s-gt-OPERATIONS.false c.if-s-gt-STATES.false c.if-counted-gt-MOST_COUNTED.false

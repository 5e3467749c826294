use lib.ListN.{length}
use Rattle.call_read.proofs.CallLaws.{rest-refused, rest-written}
use Rattle.call_read.proofs.written.Goals as goal

pub returns-in-Ok : goal.returns-in-Ok
returns-in-Ok c =
    λ p h. rest-written p h (length c.args.image.now) c.judge-fault.ensures c.in-Ok.is c.write_image.ensures

pub returns-in-Err : goal.returns-in-Err
returns-in-Err c =
    λ p h. rest-refused p h (length c.args.image.now) c.judge-fault.ensures c.in-Err.is c.refuse.ensures

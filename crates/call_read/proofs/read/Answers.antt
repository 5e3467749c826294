use lib.ListN.{length}
use Rattle.call_read.proofs.CallLaws.{passed-short, words-passed, words-refused}
use Rattle.call_read.proofs.ShortLaws.{read_short, words-short}
use Rattle.call_read.proofs.read.Goals as goal

pub parsed-requires : goal.parsed-requires
parsed-requires c =
    passed-short c.args.text.now c.first_fault-fault.ensures c.in-Ok.is

pub returns-in-Ok : goal.returns-in-Ok
returns-in-Ok c =
    let n = length c.args.image.now in
    record {
      image_after = words-passed c.args.text.now n c.first_fault-fault.ensures c.in-Ok.is c.parsed.ensures.image_after;
      short = read_short c.args.text.now n (λ l w. c.parsed.ensures.short);
    }

pub returns-in-Err : goal.returns-in-Err
returns-in-Err c =
    let n = length c.args.image.now in
    record {
      image_after = words-refused c.args.text.now n c.first_fault-fault.ensures c.in-Err.is c.refuse.ensures;
      short = words-short c.args.text.now n c.first_fault-fault.ensures c.in-Err.is;
    }

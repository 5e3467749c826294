use Rattle.std.proofs.Common.{◌≡◌, Err, rules}
use Rattle.parse_step.specs.declared.Unread.TheVariants.{Refused}
use lib.ListN.{length}
use Rattle.call_read.proofs.CallLaws.{grammar-done, grammar-refused}
use Rattle.call_read.proofs.ShortLaws.{parsed-short, refused-short}
use Rattle.call_read.proofs.parsed.Goals as goal

pub returns-in-Err-Refused : goal.returns-in-Err-Refused
returns-in-Err-Refused c =
    let n = length c.args.image.now in
    let e : c.described-outcome.result ≡ Err (Refused c.in-Err-Refused.f) = search rules in
    record {
      image_after = grammar-refused n c.described-outcome.ensures e c.refuse.ensures;
      short = refused-short c.args.text.now n _ c.requires (c.described-outcome.ensures.refused _ e);
    }

pub returns-in-Ok : goal.returns-in-Ok
returns-in-Ok c =
    let p = c.described-outcome.ensures.done _ c.in-Ok.is in
    let n = length c.args.image.now in
    record {
      image_after = grammar-done n p (c.written.ensures p c.requires);
      short = parsed-short n p c.requires;
    }

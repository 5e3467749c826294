use Rattle.language.specs.RecordBytes.{open_mark}
use Rattle.run_next.specs.Seen.{record_meant}
use Rattle.run_soundness.proofs.RecordLaws.{record-placed}
use borrow.Author.Rules.{rules}
use Rattle.run_soundness.proofs.record.write_record.Goals as goal

pub returns : goal.returns
unfolding open_mark
returns c =
    λ h.
    record-placed _ (record_meant c.args.r) (search rules) h c.write_four.ensures c.write_four-2.ensures c.write_four-3.ensures c.write_four-4.ensures c.write_returns.ensures

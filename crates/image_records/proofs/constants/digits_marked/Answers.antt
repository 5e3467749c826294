use Rattle.language.specs.Decode.{digits_marked}
use Rattle.image_records.proofs.constants.digits_marked.Goals as goal

pub returns-then-k-eq0 : goal.returns-then-k-eq0
unfolding digits_marked
returns-then-k-eq0 c =
    rw c.if-k-eq0.true

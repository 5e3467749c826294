use lib.ListN.{length}
use Rattle.parse_held.proofs.BodyLaws.{records-put}
use Rattle.parse_held.proofs.body.put.Goals as goal

pub returns : goal.returns
returns c =
    λ p l f k z h. records-put c.args.work.now c.args.c l f (length c.args.image.now) p k z h c.rows_of.ensures c.put.ensures c.rows_of-2.ensures c.put-2.ensures c.nodes_of.ensures c.put-3.ensures c.rows_of-3.ensures c.put-4.ensures c.rows_of-4.ensures c.put-5.ensures

use Rattle.parse_stores.proofs.LeafLaws.{put-done, put_full}
use Rattle.parse_stores.proofs.leaves.put.Goals as goal

pub returns-then-room : goal.returns-then-room
returns-then-room c =
    put-done c.whole.ensures c.add_action-room.ensures c.if-room.true c.with_actions-state.ensures

pub returns : goal.returns
returns c = put_full c.whole.ensures c.add_action-room.ensures c.if-room.false

use Rattle.language.specs.Encode.{action_bytes}
use Rattle.image_records.proofs.action_bytes.action_bytes.Goals as goal

pub returns-in-Store : goal.returns-in-Store
unfolding action_bytes
returns-in-Store c =
    rw c.in-Store.is (rw c.store_mark.ensures at c.fields.ensures)

pub returns-in-StorePair : goal.returns-in-StorePair
unfolding action_bytes
returns-in-StorePair c =
    rw c.in-StorePair.is (rw c.store_mark-in-StorePair.ensures at c.fields-in-StorePair.ensures)

pub returns-in-Set : goal.returns-in-Set
unfolding action_bytes
returns-in-Set c =
    rw c.in-Set.is c.fields-in-Set.ensures

pub returns-in-Perform : goal.returns-in-Perform
unfolding action_bytes
returns-in-Perform c =
    rw c.in-Perform.is c.fields-in-Perform.ensures

pub returns-in-Goto : goal.returns-in-Goto
unfolding action_bytes
returns-in-Goto c =
    rw c.in-Goto.is c.fields-in-Goto.ensures

pub returns-in-Call : goal.returns-in-Call
unfolding action_bytes
returns-in-Call c =
    rw c.in-Call.is c.fields-in-Call.ensures

pub returns-in-Return : goal.returns-in-Return
unfolding action_bytes
returns-in-Return c =
    rw c.in-Return.is c.fields-in-Return.ensures

pub returns-in-When : goal.returns-in-When
unfolding action_bytes
returns-in-When c =
    rw c.in-When.is c.fields-in-When.ensures

pub returns-in-Choose : goal.returns-in-Choose
unfolding action_bytes
returns-in-Choose c =
    rw c.in-Choose.is c.fields-in-Choose.ensures

pub returns-in-Arm : goal.returns-in-Arm
unfolding action_bytes
returns-in-Arm c =
    rw c.in-Arm.is c.fields-in-Arm.ensures

pub returns-in-Broken : goal.returns-in-Broken
unfolding action_bytes
returns-in-Broken c =
    rw c.in-Broken.is c.fields-in-Broken.ensures

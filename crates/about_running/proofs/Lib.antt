-- ---- Never stuck; any run; every way to be stuck is reached by an image that does not pass.
pub mod StuckReached
-- ---- What a cycle comes to, told from 01's sentences: there is one account, and the definition agrees with it.
pub mod OneAccount
pub mod MetThere
pub mod ValuesAccounted
pub mod ActionsAccounted
-- ---- 01's conditions for a stop, of what is executed; every stop in 01's order.
pub mod AccountExamples
pub mod Decided
pub mod Counted
pub mod StopOrder

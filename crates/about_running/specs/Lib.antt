-- What holds of the definitions alone. Read NeverStuck, AnyRun, StuckReached, Account, Conditions, StopOrder, LandsLast, Kept, CycleWrites and LandsTogether; the rest leads to them.

-- ---- What no fault means, part by part.
pub mod Judged
pub mod OneAction
pub mod Operators
pub mod Gives
pub mod InBounds
pub mod Finds
pub mod Starts
-- ---- An expression without fault has a value of the length worked out before, or meets S1; actions without fault are carried out to the end, or meet S1.
pub mod Entering
pub mod Evaluates
pub mod Terminals
pub mod Executes
pub mod Lists
-- ---- A description in legal form.
pub mod Ordered
pub mod LegalForm
pub mod Acts
pub mod FewStores
pub mod FewInLists
pub mod FewConflicts
pub mod StateValues
-- ---- The store and the record stay sound.
pub mod Fitting
pub mod Bearers
pub mod NextState
pub mod Cycle
pub mod Soundness
-- ---- Never stuck; any run; every way to be stuck is reached by an image that does not pass.
pub mod NeverStuck
pub mod AnyRun
pub mod StuckReached
-- ---- What a cycle comes to, told from 01's sentences: there is one account, and the definition agrees with it.
pub mod Account
-- ---- 01's conditions for a stop, of what is executed; every stop in 01's order.
pub mod Conditionals
pub mod Conditions
pub mod StopOrder
-- ---- Two kinds of store that stand for each other go through every list of actions alike, whatever the image.
pub mod PlaceFound
pub mod SameValues
pub mod SameActions
pub mod SameRuns
-- ---- What a completed cycle did; what no store names is kept; all that it wrote, in order; delayed stores land together.
pub mod LandsLast
pub mod BitsKept
pub mod Kept
pub mod CycleWrites
pub mod LandsTogether

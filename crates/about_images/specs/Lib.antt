-- What is written is read back, and the check is exact. Read Whole and CheckExact; the rest leads to them.

-- ---- Descriptions as sections and as images, both ways.
pub mod Begins
pub mod Names
pub mod Rows
pub mod Running
pub mod Back
pub mod Again
pub mod Whole
-- ---- Trees and runs that are judged fine: every record is sane, there are few for what they count, and no expression is deeper than that allows.
pub mod Counted
pub mod Depth
pub mod Trees
pub mod Fine
pub mod Acts
pub mod Covered
-- ---- A description in legal form.
pub mod Legal
pub mod Ranges
pub mod CheckExact

-- ---- The whole of each call.
pub mod Reading
pub mod Opening
pub mod Cycle
pub mod Run
pub mod Lookups
-- ---- What C gets.
pub mod Numbers

pub mod FunctionWords
pub mod InputLaws
pub mod FunctionLaws
pub mod ComputedLaws
pub mod TerminalLaws

pub mod BracketWords
pub mod EndLaws
pub mod OperandCosts
pub mod OperandLaws
pub mod ReferenceLaws
pub mod TermWords

-- What a completed cycle keeps and lands, bit by bit of the bytes lent.
pub mod BitLaws
pub mod KeptBytes
pub mod KeptExamples

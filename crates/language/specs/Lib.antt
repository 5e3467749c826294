-- The meaning of DDL-P, in the order in which it is best read.
pub mod Tests
-- The ceilings of document 01.
pub mod Ceilings
-- Values and constants (the manual, 2.3 and 5.3).
pub mod Value
pub mod Constants
pub mod ValueExamples
-- From bytes to words (the manual, 2).
pub mod Characters
pub mod Kinds
pub mod Refusals
pub mod Words
pub mod Scan
pub mod Columns
pub mod WordStage
pub mod WordExamples
-- From words to a tree: the grammar (the manual, Appendix B), and the machine that follows it word by word.
pub mod Tree
pub mod Notions
pub mod Grammar
pub mod BuildSteps
pub mod Building
pub mod Declaring
pub mod Machine
pub mod Alternatives
pub mod Ways
pub mod SectionWays
pub mod CountedWords
pub mod GrammarExamples
-- From a tree to records, and the rules that they must keep.
pub mod Recursion
pub mod Description
pub mod Naming
pub mod Describe
pub mod DescribeText
pub mod Operators
pub mod Judging
pub mod References
pub mod ReferenceRules
pub mod Expressions
pub mod Storing
pub mod ActionRules
pub mod Layout
pub mod Rules
-- The image in bytes, and which images pass.
pub mod Encode
pub mod Decode
pub mod Order
pub mod Canonical
pub mod Image
-- A cycle: expressions, actions, the store, the next state.
pub mod Stops
pub mod Meaning
pub mod Acting
pub mod Store
pub mod Step
-- The public calls to the byte, and the trace.
pub mod Reading
pub mod RecordBytes
pub mod Calls
pub mod Lookups
pub mod InputLines
pub mod Trace
-- Worked examples.
pub mod Computing
pub mod Cases
pub mod ImageExamples
pub mod RefusalExamples
pub mod RunExamples
pub mod StepExamples
pub mod TraceExamples

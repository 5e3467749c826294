pub mod BeginLaws
pub mod BeginLoop
pub mod BegunWords
pub mod FormLaws
pub mod SizeLaws
pub mod StimulusLaws

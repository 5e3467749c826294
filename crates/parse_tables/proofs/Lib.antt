pub mod FacilityLaws
pub mod FirstFound
pub mod MeaningLaws
pub mod NameLaws
pub mod NamesGrown
pub mod OtherRecords
pub mod RowLaws
pub mod TwoBytes

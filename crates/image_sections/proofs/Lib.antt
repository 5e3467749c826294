pub mod DeclarationBack
pub mod DeclarationLaws
pub mod DescribedLaws
pub mod FacilitySame
pub mod HeaderLaws
pub mod ImageLaws
pub mod NameLaws
pub mod WrittenDeclarations

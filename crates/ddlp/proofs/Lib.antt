pub mod NameBounds

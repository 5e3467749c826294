pub mod DeclaredLaws
pub mod EdgeLaws
pub mod HoldsLaws
pub mod RunLaws
pub mod StartLaws
pub mod TreeLaws

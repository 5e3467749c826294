-- What rests on the counts and on the places of refusals, and worked examples of these.
pub mod Chains
pub mod TenPlaces
pub mod NoTens
pub mod Exact
pub mod ExamplesPlaces

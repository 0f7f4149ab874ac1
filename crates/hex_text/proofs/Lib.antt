pub mod DumpRows
pub mod Fronts

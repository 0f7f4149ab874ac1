pub mod Area
pub mod Areas
pub mod Members

pub mod Flags
pub mod Maps
pub mod Row

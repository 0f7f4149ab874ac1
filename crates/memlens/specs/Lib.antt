pub mod Formats
pub mod Paths

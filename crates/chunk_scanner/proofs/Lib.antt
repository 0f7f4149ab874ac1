pub mod Examples
pub mod Hits
pub mod Occurs
pub mod Telling
pub mod Windows

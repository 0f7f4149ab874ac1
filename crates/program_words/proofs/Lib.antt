pub mod CommandLine
pub mod Digits
pub mod Examples
pub mod Asked

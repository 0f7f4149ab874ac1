pub mod Number
pub mod CommandLine
pub mod Settings
pub mod Made

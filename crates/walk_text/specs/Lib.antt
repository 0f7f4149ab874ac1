pub mod Added
pub mod Front
pub mod Passed
pub mod WalkText

pub mod Banner
pub mod Candidate
pub mod Criteria
pub mod Find
pub mod FoundText
pub mod Layout

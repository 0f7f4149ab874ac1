pub mod Codes
pub mod Hole
pub mod InSpace
pub mod Kept
pub mod State
pub mod Through
pub mod Writer

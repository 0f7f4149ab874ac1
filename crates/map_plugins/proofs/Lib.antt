pub mod Chain
pub mod Joined
pub mod Whole

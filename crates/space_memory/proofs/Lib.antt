pub mod Fitting
pub mod Holes
pub mod Kept
pub mod Memories
pub mod Reading
pub mod Spaces
pub mod Words
pub mod Writers

pub mod Ends
pub mod Given
pub mod Going
pub mod Turns
pub mod Words

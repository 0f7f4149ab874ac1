pub mod Decoding
pub mod WordLists
pub mod Giving

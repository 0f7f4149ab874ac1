pub mod Addresses
pub mod Extremes
pub mod Telling

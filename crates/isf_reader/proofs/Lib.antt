pub mod Descriptors
pub mod Kept
pub mod Named
pub mod Nesting
pub mod Order
pub mod Search
pub mod Taking

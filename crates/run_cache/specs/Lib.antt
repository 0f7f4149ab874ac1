pub mod Cache
pub mod Changes
pub mod Codes
pub mod Key
pub mod Shown

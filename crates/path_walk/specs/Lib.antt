pub mod Cell
pub mod Path
pub mod Places
pub mod Special
pub mod Spots
pub mod Turn
pub mod Way

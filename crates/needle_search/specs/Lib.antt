pub mod FirstHit
pub mod Needles
pub mod Progress

pub mod Behind
pub mod Past
pub mod Pieces

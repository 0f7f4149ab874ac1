pub mod Climbs
pub mod Family
pub mod Forest
pub mod Parents
pub mod Tops
pub mod Tree

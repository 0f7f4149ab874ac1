pub mod Element
pub mod Member
pub mod Path
pub mod Size

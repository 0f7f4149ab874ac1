pub mod Block
pub mod Entry
pub mod Paging
pub mod Walk
pub mod Word

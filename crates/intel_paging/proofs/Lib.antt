pub mod Blocks
pub mod SmallTables
pub mod Walking
pub mod Words

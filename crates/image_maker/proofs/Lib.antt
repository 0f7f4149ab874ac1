pub mod Writing
pub mod Overwriting
pub mod WrittenRows
pub mod Counted
pub mod Members
pub mod Zeros
pub mod Floats

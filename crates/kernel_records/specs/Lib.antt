pub mod Fault
pub mod Groups
pub mod Meaning
pub mod Missing
pub mod Need
pub mod Shift
pub mod Whole

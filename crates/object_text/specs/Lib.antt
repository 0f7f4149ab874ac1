pub mod Fault
pub mod Named
pub mod Object
pub mod Told

pub mod First
pub mod Joined
pub mod Pids
pub mod Read
pub mod RowTexts

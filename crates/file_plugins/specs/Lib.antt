pub mod FileTable
pub mod Lines
pub mod Lsof
pub mod OpenFiles
pub mod Rows

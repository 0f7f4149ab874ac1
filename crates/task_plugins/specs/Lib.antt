pub mod Members
pub mod Pid
pub mod Pslist
pub mod Pstree
pub mod Task
pub mod Tasks
pub mod TaskSpace

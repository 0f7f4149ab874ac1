pub mod Modules
pub mod Places
pub mod Size
pub mod Syscalls

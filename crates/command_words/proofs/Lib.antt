pub mod Joined
pub mod Limited
pub mod Numbers
pub mod ShortWords
pub mod Steps

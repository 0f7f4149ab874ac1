pub mod Links
pub mod Objects
pub mod State
pub mod Turn

pub mod Filled
pub mod Hits
pub mod Position
pub mod Scan
pub mod Search
pub mod State
pub mod Window

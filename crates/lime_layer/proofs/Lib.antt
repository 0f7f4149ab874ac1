pub mod Device
pub mod Reading

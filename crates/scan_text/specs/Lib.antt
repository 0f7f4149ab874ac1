pub mod Banners
pub mod Rows
pub mod Scan
pub mod Written

pub mod Accepted
pub mod Banners

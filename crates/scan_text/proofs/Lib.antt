pub mod BannerEnds
pub mod Counts
pub mod Listings
pub mod Reading
pub mod Turns
pub mod Written

pub mod Callers
pub mod Caches
pub mod Keys
pub mod Lists
pub mod Showing

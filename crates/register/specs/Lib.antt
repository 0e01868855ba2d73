pub mod Listing
pub mod Joins
pub mod Held

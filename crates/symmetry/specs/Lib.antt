pub mod Fingerprints
pub mod Post
pub mod Tails
pub mod Listing
pub mod Searching
pub mod Tried
pub mod Swapping

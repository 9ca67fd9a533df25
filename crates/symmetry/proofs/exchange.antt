pub mod Swaps
pub mod Exchanged

pub mod Flags
pub mod Iterate
pub mod Numbered
pub mod Order
pub mod Steps

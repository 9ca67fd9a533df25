pub mod Tested
pub mod Marked
pub mod Benched
pub mod Steps
pub mod Kept
pub mod Demand3

pub mod Reading
pub mod Marking
pub mod Demand3
pub mod Both

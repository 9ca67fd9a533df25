pub mod Composed
pub mod Factored
pub mod Marked

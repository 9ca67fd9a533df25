pub mod Magnitude
pub mod Dots
pub mod Written
pub mod Padded

pub mod Doubles
pub mod Finite
pub mod Rounds
pub mod Types

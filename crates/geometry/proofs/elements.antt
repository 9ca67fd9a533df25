pub mod Grown
pub mod Elements
pub mod Ranks
pub mod Room
pub mod ClassCells

pub mod Finding
pub mod Guesses
pub mod Cells
pub mod Listed

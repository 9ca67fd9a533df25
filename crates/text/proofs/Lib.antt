pub mod Growing
pub mod Decimals
pub mod Counted
pub mod Pieces
pub mod Tables
pub mod Outputs

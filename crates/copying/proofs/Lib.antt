pub mod Squares
pub mod Scan
pub mod Growth
pub mod Extending
pub mod Tables
pub mod Judgements
pub mod Outcome
pub mod Flat

pub mod Cells
pub mod Call
pub mod Demand3

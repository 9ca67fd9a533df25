pub mod Sets
pub mod Rows
pub mod Ranks
pub mod Call
pub mod Placed
pub mod Demand3
pub mod Few

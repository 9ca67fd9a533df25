pub mod Coded
pub mod Flagged
pub mod Members
pub mod Counted

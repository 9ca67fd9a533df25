pub mod Derive
pub mod Pairs
pub mod Store
pub mod Bench
pub mod Check
pub mod Preflight

pub mod Entries
pub mod Benches
pub mod Laws

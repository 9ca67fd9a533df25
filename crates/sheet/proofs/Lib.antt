pub mod Fields
pub mod Board
pub mod Readers
pub mod Turns
pub mod Parts
pub mod Made
pub mod Laws

pub mod Puts
pub mod Cells
pub mod Members
pub mod Growing

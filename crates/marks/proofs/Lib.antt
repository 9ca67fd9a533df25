pub mod Sets
pub mod Rises
pub mod Rows
pub mod Found
pub mod Cells
pub mod Carried
pub mod Confirmed

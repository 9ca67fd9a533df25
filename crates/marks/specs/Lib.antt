pub mod Rises
pub mod Rows
pub mod Carrying
pub mod Products
pub mod Table
pub mod Marking

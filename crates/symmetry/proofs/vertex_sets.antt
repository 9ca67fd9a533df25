pub mod Summed
pub mod Sets
pub mod Looks
pub mod Rows
pub mod Images
pub mod Firsts
pub mod Carried

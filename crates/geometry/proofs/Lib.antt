pub mod Along
pub mod Hulls
pub mod Gathered
pub mod Nearest
pub mod Numbers
pub mod ClassNumbers

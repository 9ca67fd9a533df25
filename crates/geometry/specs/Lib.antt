pub mod Reading
pub mod Classes
pub mod Solids
pub mod Listed

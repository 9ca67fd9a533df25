pub mod Words
pub mod Layout
pub mod Shapes
pub mod Reading
pub mod Marks
pub mod Lying
pub mod Once

pub mod Judge
pub mod Reading

pub mod Post
pub mod Growing

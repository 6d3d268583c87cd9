pub mod Added
pub mod Adding

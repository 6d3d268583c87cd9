pub mod Sections
pub mod Limits

pub mod Searching
pub mod Keeping

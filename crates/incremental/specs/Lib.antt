pub mod Moved
pub mod Found

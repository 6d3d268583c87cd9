pub mod Copies
pub mod Reading

pub mod Seen
pub mod Adjacent

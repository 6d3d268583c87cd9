pub mod Saying
pub mod Tested
pub mod Writing

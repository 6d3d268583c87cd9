pub mod Counters
pub mod Passed
pub mod inner

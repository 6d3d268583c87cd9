pub mod Giving
pub mod Parts
pub mod Answering
pub mod Writing
pub mod Saying
pub mod RoundTrip
pub mod Words

pub mod Stepping
pub mod inner

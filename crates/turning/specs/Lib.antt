pub mod Turned
pub mod inner

pub mod Volumes
pub mod Making
pub mod inner

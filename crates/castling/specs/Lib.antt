pub mod Castlings
pub mod inner

pub mod Retracted
pub mod inner

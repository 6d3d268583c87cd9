pub mod Histories
pub mod inner

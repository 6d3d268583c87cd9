pub mod Newlines
pub mod inner

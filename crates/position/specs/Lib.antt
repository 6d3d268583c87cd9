pub mod Answers
pub mod inner

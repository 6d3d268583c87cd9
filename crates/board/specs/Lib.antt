pub mod Gate
pub mod Said
pub mod Answers
pub mod Moving
pub mod inner

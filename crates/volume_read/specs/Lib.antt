pub mod Problems
pub mod Reading
pub mod inner

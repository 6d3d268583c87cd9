pub mod Adding
pub mod inner

pub mod Register
pub mod inner

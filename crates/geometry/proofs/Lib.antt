pub mod Behind
pub mod Between
pub mod Turned

pub mod Layout
pub mod Contents
pub mod Refusing
pub mod inner

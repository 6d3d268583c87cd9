pub mod Desks
pub mod Layout
pub mod Calls
pub mod Runs
pub mod inner

pub mod Editions
pub mod Turning

pub mod Shown
pub mod Spoken

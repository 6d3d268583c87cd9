pub mod Shown
pub mod Spoken
pub mod Enough

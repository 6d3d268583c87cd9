pub mod Sizes
pub mod Slots
pub mod Shown
pub mod Spoken

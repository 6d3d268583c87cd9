pub mod Skipping
pub mod Twelve
pub mod Sizes
pub mod Jumping
pub mod Keeping
pub mod Remaining
pub mod Sourcing

pub mod Resting
pub mod Ranged
pub mod Pressing

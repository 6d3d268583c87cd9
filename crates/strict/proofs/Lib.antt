pub mod Unique
pub mod Told
pub mod Numbered
pub mod Onward

pub mod Filling
pub mod Rows
pub mod Sizes
pub mod Bodies
pub mod Told
pub mod Unique

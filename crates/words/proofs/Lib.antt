pub mod Chained
pub mod Lengths
pub mod Worded

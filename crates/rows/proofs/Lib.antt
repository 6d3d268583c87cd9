pub mod Adding
pub mod Decimals
pub mod Rows
pub mod Marking
pub mod Top
pub mod Whole
pub mod Example

pub mod Counting
pub mod Splitting
pub mod Pawns

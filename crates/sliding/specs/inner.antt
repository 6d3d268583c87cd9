pub mod Diagonals
pub mod Seen

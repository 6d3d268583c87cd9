pub mod Breaks
pub mod Surveying
pub mod Pieces
pub mod Unique

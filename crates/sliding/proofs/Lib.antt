pub mod Borrowing
pub mod Diagonals
pub mod Mirrors
pub mod Seeing

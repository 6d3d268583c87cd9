pub mod Tests
pub mod Squares
pub mod Members
pub mod Walks

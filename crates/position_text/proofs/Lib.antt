pub mod Tails
pub mod Bytes
pub mod Walks
pub mod Inverse
pub mod Words

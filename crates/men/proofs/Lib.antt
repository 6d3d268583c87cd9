pub mod Having
pub mod Beside

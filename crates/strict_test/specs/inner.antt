pub mod Strictly
pub mod Coming

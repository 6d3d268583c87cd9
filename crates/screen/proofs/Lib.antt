pub mod Screened
pub mod Whole

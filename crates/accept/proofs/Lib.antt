pub mod Judged
pub mod Numbered

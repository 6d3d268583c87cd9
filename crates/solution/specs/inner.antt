pub mod Marked
pub mod Judged

pub mod Marking
pub mod Judging
pub mod Answering
pub mod Exactly

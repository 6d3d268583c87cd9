pub mod Saying
pub mod Passing
pub mod Moving
pub mod Numbers

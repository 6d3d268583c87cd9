pub mod Past
pub mod Chain
pub mod Walking
pub mod Sound
pub mod Unique
pub mod Answered

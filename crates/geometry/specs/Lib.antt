pub mod Chess
pub mod Colors
pub mod Lines
pub mod Steps

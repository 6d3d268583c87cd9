pub mod Near
pub mod Exposed
pub mod Seen

pub mod Castlings
pub mod Forbidden
pub mod Opened
pub mod Before

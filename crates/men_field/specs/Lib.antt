pub mod Placement
pub mod Grammar
pub mod inner

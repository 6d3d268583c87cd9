pub mod Form
pub mod Grammar
pub mod Entries
pub mod inner

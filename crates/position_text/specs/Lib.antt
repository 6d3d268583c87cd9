pub mod Form
pub mod Grammar
pub mod inner

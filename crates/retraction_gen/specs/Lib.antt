pub mod Making
pub mod Cursors
pub mod Sequence
pub mod inner

pub mod Backs
pub mod Answering
pub mod Returned

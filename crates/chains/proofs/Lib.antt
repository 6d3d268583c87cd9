pub mod Walking
pub mod Boards
pub mod Known

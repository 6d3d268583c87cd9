pub mod Editing
pub mod Composing

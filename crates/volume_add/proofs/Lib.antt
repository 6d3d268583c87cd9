pub mod Lengthening
pub mod Numbers
pub mod Told
pub mod Unique
pub mod Held

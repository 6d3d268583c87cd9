pub mod Simple
pub mod Coming
pub mod Asked
pub mod Calming
pub mod Telling
pub mod Placing

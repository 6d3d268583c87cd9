pub mod Texts
pub mod Alone
pub mod Daggers
pub mod Computed

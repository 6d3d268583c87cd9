pub mod Shades
pub mod Counted
pub mod Parted
pub mod Gained
pub mod Allowed

pub mod Numbers
pub mod Allowed
pub mod Lengths
pub mod Filling
pub mod Walking
pub mod Told
pub mod Numbered

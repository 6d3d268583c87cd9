pub mod Inverse
pub mod Cutting
pub mod Walking
pub mod Forms
pub mod Beginnings

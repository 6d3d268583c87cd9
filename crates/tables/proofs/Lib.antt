pub mod Entries
pub mod BetweenRule
pub mod Paths
pub mod OneTable

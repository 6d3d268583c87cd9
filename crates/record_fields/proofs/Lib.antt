pub mod Decimals
pub mod Counters
pub mod Splits
pub mod Pawns

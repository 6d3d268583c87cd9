pub mod OneKing
pub mod Aloneness

pub mod Attacked

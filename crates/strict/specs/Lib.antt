pub mod Demand
pub mod Onward

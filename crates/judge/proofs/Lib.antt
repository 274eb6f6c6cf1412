pub mod Ways
pub mod Demand

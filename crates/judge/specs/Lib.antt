pub mod Answer
pub mod Demand3
pub mod Marked

pub mod Outcome
pub mod Order
pub mod Between
pub mod Bounded
pub mod Throughout
pub mod Marked

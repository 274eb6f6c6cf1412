pub mod Parts
pub mod Whole
pub mod Division
pub mod Bounded
pub mod AsRead

pub mod Numbers
pub mod Steps
pub mod Filling
pub mod Pieces
pub mod Flat
pub mod Reading
pub mod Writing

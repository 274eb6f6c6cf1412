pub mod Numbers
pub mod Rows
pub mod Bounds
pub mod Fields

pub mod Chain
pub mod Numbers
pub mod Rows
pub mod Bounds
pub mod Fields
pub mod Netting

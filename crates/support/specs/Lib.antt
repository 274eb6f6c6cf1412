pub mod Support
pub mod Examine
pub mod Rows
pub mod Bounds
pub mod SupportS
pub mod Read

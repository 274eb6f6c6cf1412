pub mod Failing
pub mod Rows
pub mod Marked

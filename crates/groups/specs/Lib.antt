pub mod Encode
pub mod Decode
pub mod LowFirst
pub mod Numbers
pub mod Rows
pub mod Marked

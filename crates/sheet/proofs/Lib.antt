pub mod Bytes
pub mod Faults
pub mod Rows
pub mod Falls
pub mod Sound

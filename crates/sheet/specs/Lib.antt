pub mod Sheet
pub mod Rows
pub mod Pass
pub mod StabilityFactor
pub mod Bytes
pub mod SheetT
pub mod Marked

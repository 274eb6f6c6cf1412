pub mod Columns
pub mod Book
pub mod Read
pub mod Write
pub mod Rows
pub mod RoundTrip
pub mod Marked

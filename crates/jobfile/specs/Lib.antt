pub mod Kind
pub mod Read
pub mod Write
pub mod RoundTrip
pub mod Beginning
pub mod Marked

pub mod Digits
pub mod ReadBack
pub mod Report
pub mod Put
pub mod Enough
pub mod Marked
pub mod Refused

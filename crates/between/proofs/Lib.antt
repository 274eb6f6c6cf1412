pub mod Chain
pub mod Fields
pub mod Places
pub mod Heights
pub mod Ways
pub mod Throughout
pub mod Numbers
pub mod Marked

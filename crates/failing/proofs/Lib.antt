pub mod Place
pub mod Loop
pub mod Told
pub mod Marked

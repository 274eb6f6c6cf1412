pub mod Decimals
pub mod Section5
pub mod PoleForce
pub mod Formwork
pub mod Harsher
pub mod Poles
pub mod Marked
pub mod MarkedSupports

pub mod LengthFactor
pub mod Poles
pub mod Marked
pub mod MarkedSupports

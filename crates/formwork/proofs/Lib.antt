pub mod Most
pub mod Same
pub mod Keep
pub mod Ways
pub mod Order

pub mod Returned
pub mod Beginnings
pub mod Prints

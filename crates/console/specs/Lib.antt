pub mod Printed
pub mod Prefix

pub mod BothKinds
pub mod Sizes
pub mod Reading
pub mod Writing
pub mod RoundTrip
pub mod Beginning

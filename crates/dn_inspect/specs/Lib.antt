pub mod Formats
pub mod Wads
pub mod Counting
pub mod Telling
pub mod Differing
pub mod Writing
pub mod Scripts

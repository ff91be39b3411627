pub mod Layout
pub mod Text
pub mod Places
pub mod Recorded
pub mod Reading
pub mod Feeding

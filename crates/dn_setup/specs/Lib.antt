pub mod Settings
pub mod Setup
pub mod Gathered

pub mod Calls
pub mod Engines
pub mod Letters
pub mod Pairs
pub mod Tables

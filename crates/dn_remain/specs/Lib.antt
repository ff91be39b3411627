pub mod Vanished
pub mod Wary
pub mod Remaining
pub mod Promise
pub mod Relaying

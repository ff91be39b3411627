pub mod Node
pub mod Steps
pub mod Calls
pub mod Promise
pub mod Commands

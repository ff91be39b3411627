pub mod Stepping
pub mod Hearing
pub mod Running

pub mod Letters
pub mod Keeping
pub mod Receiving

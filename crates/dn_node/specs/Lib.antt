pub mod Kept
pub mod Contents
pub mod Steps

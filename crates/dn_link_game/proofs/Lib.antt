pub mod Gone
pub mod Going
pub mod Receiving
pub mod Promising
pub mod Seeing
pub mod Steady

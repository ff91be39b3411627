pub mod Sealed
pub mod Arrivals

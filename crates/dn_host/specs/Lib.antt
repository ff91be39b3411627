pub mod Addresses
pub mod Arrived
pub mod Leaving
pub mod Offers
pub mod Outcomes
pub mod Playing
pub mod Telling
pub mod Turns

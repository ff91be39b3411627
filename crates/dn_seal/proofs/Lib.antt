pub mod Envelopes
pub mod Openings

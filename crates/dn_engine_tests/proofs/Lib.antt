pub mod Parcels
pub mod Staying
pub mod Beginning
pub mod Calling
pub mod Going
pub mod Agreeing
pub mod Opening

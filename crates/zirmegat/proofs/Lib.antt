pub mod Values
pub mod Holders
pub mod HolderFunctions
pub mod HolderLends
pub mod SlotFunctions
pub mod OfKinds
pub mod Calling
pub mod Turning

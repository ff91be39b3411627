pub mod OptionValues
pub mod Keys
pub mod More

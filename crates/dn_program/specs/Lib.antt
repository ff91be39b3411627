pub mod OptionValues
pub mod Keys
pub mod Arguments
pub mod Commands
pub mod Endings
pub mod Printed
pub mod Sessions

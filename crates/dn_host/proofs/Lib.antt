pub mod Hosts
pub mod Played
pub mod Turned
pub mod Sockets

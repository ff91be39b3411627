pub mod Playing
pub mod Does
pub mod Headline
pub mod Genuine
pub mod Games
pub mod Opening
pub mod Applied
pub mod Promised

pub mod Hmac
pub mod Envelope
pub mod Opening
pub mod Sealing

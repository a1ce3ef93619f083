pub mod Limits
pub mod Places
pub mod Headers
pub mod Heads

pub mod Bounded
pub mod Places
pub mod LookUps
pub mod Joined
pub mod Masks
pub mod Numbers
pub mod Pairs
pub mod Alternate

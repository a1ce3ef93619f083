pub mod ImageHeader
pub mod Blocks
pub mod Stretches
pub mod Images
pub mod Looks
pub mod HeaderFaults
pub mod Payloads

pub mod Faults
pub mod Told
pub mod Limits
pub mod Fakes
pub mod Output

pub mod Frames
pub mod Accepted
pub mod Events

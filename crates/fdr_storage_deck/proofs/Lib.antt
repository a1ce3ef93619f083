pub mod Waiting
pub mod Sending
pub mod Filling
pub mod Running
pub mod Growing
pub mod Stretches
mod Streaming

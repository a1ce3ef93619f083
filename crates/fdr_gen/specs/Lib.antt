pub mod Draws
pub mod Trace
pub mod Past
pub mod View

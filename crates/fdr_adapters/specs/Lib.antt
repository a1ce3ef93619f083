pub mod FaultLines
pub mod Twins

pub mod Telling
pub mod OutputSteps

pub mod WordCount
pub mod Slots

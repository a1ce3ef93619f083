pub mod Occurrences
pub mod Soundness
pub mod Faults
pub mod Report
pub mod Walks
pub mod Groups
pub mod Slots
pub mod Sorting

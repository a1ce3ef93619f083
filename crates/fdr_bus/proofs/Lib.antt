pub mod WordLemmas
pub mod Labels
pub mod ParseLemmas
pub mod GoodRecords
pub mod WholeRecords
pub mod TraceLemmas
pub mod GoodPrefix
pub mod NextRecord
pub mod Faults
mod WorkedTrace

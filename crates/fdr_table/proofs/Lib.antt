pub mod FieldFacts
pub mod RowFacts
pub mod RecordFacts
pub mod SearchFacts
pub mod FaultFacts
pub mod DraftFacts
pub mod NextFacts
pub mod NameFacts
pub mod ValueFacts
mod Worked

pub mod WordLemmas
pub mod PairLemmas
pub mod FieldLemmas
pub mod FieldsApart
pub mod AppendLemmas

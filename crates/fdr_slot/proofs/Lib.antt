pub mod NumberLemmas
pub mod HeaderLemmas
pub mod HeadLemmas

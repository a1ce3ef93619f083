pub mod Ranges
pub mod Pieces
pub mod Searches
pub mod Filters
pub mod Sums
pub mod Pairs
pub mod Numbered
pub mod Options

pub mod LineParts
pub mod RowLines
pub mod Sizes

pub mod Rows
pub mod Scales
pub mod Kept
pub mod Plans
pub mod View
pub mod Past

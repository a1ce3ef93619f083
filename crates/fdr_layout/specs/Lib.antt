pub mod Samples
pub mod Ranges
pub mod Cycles
pub mod SlotParts
pub mod Drafts
pub mod Flat
pub mod Listed
pub mod LayoutView

pub mod Blocks
pub mod Packing
pub mod Kept
pub mod View
pub mod Past
pub mod Waiting

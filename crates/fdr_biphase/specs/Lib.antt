pub mod Cells
pub mod Phases
pub mod Packed
pub mod Words
pub mod Past
pub mod Reading

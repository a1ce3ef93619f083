pub mod PackingLemmas
pub mod Drawn
pub mod Standing
pub mod Later
pub mod Zeros
pub mod ZeroWords
pub mod Rooms
pub mod LateSlots

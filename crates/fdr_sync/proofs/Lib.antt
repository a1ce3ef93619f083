pub mod FrameLemmas
pub mod ChoiceLemmas
pub mod EventSteps
pub mod AcceptedLemmas
pub mod EventLemmas
pub mod FrameSteps
pub mod SameLemmas

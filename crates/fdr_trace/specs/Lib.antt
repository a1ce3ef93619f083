pub mod Kept
pub mod View
pub mod Reading
pub mod Pulls
pub mod Moments

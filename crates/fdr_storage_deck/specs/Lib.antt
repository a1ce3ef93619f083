pub mod Acknowledgements
pub mod Causes
pub mod Finds
pub mod Runs
pub mod State
pub mod Streams
pub mod Windows

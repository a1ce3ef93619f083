pub mod Gates
pub mod Formatting
pub mod Runs
pub mod Rings
pub mod Closing
pub mod Bodies

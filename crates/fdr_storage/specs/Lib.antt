pub mod Disk
pub mod Calls
pub mod Names
pub mod Memory
pub mod MemorySound

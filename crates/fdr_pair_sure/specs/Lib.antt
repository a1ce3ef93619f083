pub mod BothInMemory

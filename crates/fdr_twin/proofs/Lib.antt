pub mod Same
pub mod Turns
pub mod Serves
mod TwinCalls
mod TwinRest
mod TwinSides
mod TwinStops

pub mod Times
pub mod Numbers
pub mod Joins
pub mod InOne
pub mod LastRun

pub mod Pulling
pub mod Records
pub mod Filling
pub mod Next
pub mod PullMoments

pub mod Past
pub mod View
pub mod Answers
pub mod Adjacency

pub mod Makings
pub mod MadeDecks

pub mod MadeTwins
pub mod Entries
pub mod OnBoth

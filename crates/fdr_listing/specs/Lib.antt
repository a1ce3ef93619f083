pub mod Text
pub mod Numbers

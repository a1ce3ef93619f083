pub mod Words
pub mod Spelling
pub mod Views
pub mod Reader
pub mod Forms
pub mod Request

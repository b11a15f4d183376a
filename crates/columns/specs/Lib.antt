pub mod Messages
pub mod Spelling

pub mod Letters
pub mod Places
pub mod Texts
pub mod Unique

pub mod Bits
pub mod Hexadecimal
pub mod Knowledge
pub mod Meanings
pub mod Places
pub mod Words

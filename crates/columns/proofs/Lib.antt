pub mod Decimals
mod Folding
mod Readings
pub mod Spelled

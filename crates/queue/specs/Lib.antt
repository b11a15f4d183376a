pub mod Blocks
pub mod Keys

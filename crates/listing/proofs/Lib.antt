pub mod Changing
pub mod Giving
pub mod Only
pub mod Outputs
pub mod Putting
pub mod Simulating
pub mod Unique

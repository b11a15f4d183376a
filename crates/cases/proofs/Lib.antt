pub mod Calling
pub mod Finding
pub mod Reading
pub mod Yielded

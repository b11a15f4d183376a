pub mod Answered
pub mod Closing
pub mod Marks
pub mod Ranges
pub mod Reading
pub mod Rewriting
pub mod Searching
pub mod Sheets

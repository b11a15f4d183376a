pub mod Knowledge
pub mod Lanes
pub mod Relations
pub mod Systems

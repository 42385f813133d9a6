pub mod Ask
pub mod Sections

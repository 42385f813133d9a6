pub mod Passing
pub mod Adding
pub mod Gathered

pub mod Lines
pub mod Lengths

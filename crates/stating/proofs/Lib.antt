pub mod Fields
pub mod Lengths
pub mod Writing

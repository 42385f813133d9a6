pub mod Sums
pub mod Slots

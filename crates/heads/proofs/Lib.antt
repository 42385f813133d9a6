pub mod Heads
pub mod Judged

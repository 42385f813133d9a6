pub mod Authorising
pub mod Answers
pub mod Fits
pub mod Summing

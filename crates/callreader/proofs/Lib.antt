pub mod Calls
pub mod Taking
pub mod Long
pub mod Reading
pub mod Few

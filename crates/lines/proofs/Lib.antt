pub mod Amounts
pub mod Addresses

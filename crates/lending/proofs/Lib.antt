pub mod Cases
pub mod Looking
pub mod Modelled

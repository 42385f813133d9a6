pub mod Cases
pub mod CasesRead
pub mod Computing

pub mod Computing
pub mod Cases
pub mod CasesLines

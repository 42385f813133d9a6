-- For the contracts of private functions alone: what is derived is in the specs of `flow`.
pub mod Steps
pub mod StatusTable

-- For the contracts of private functions alone: what a text means is in the specs of `sdp`.
pub mod Steps

pub mod Playing
pub mod EveningPlayed

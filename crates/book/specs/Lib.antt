-- The meaning of the book: Sound (19), Booking (totals and changes), Look (all rows), Calls (the calls on one row), Model (the book), Totals,
-- Serial and Demand3 (demand 3), Left (for its reader). Tables, which only computed figures cite: Cases (the starred cases), Evening and
-- CasesLeft (demand 3), CasesRows (rows by hand), CasesSound (19), CasesReplied (whole answers), CasesOrdered (the order of refusals).
pub mod Sound
pub mod Booking
pub mod Look
pub mod Calls
pub mod Refusing
pub mod Model
pub mod Totals
pub mod Serial
pub mod Demand3
pub mod Left
pub mod Cases
pub mod Evening
pub mod CasesRows
pub mod CasesSound
pub mod CasesReplied
pub mod CasesOrdered
pub mod CasesLeft

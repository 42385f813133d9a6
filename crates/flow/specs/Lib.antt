-- The meaning of deriving, in the order of document 01, "Deriving from offer and answer": read Status, Described, Rates (requested and
-- authorised), Class, Derive, Gates, Bearer, Deciding; Fit is refusal 15; Range has the ranges for 19. Slots has what is said of eight slots,
-- Session what a session holds, Before what deriving reads of it.
pub mod Slots
pub mod Session
pub mod Before
pub mod Status
pub mod Described
pub mod Rates
pub mod Class
pub mod Derive
pub mod Range
pub mod Fit
pub mod Gates
pub mod Bearer
pub mod Deciding

-- The table of document 01, "Refusal numbers", in its own words, for the theorems: Table (each number of the book, "given exactly when", and the
-- order of each call), Place (the column "Place").
pub mod Table
pub mod Place

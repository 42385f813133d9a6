pub mod Books
pub mod Widths
pub mod Answering

-- Lemmas on what is written.
pub mod Written
pub mod SameText
pub mod Chunks
pub mod Longer
pub mod Priced

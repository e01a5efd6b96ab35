-- The laws behind the promises, by the same files.
pub mod Run
pub mod Tariff
pub mod Preview
pub mod Grounds
pub mod Blocks
pub mod Versions
pub mod Accesses
pub mod Figures

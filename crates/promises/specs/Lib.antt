-- The statements of the promises, by the function that they are about.
pub mod Run
pub mod Tariff
pub mod Preview
pub mod Grounds
pub mod Blocks
pub mod Versions
pub mod Accesses
pub mod Figures

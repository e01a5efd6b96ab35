-- What the contracts of `replay` cite. Assumes nothing.
pub mod Pattern
pub mod Head
pub mod Space
pub mod Buffers
pub mod Ran

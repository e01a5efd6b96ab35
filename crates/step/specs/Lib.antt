-- What the contracts of this crate cite, beside the model, and the laws by which the parts of a step make it whole.
pub mod Begun
pub mod Access
pub mod Fetch
pub mod Block
pub mod Whole

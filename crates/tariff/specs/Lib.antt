-- What the contracts of this crate cite, beside the model.
pub mod Shares

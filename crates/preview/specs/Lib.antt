-- What the contracts and proofs of this crate cite, beside the model.
pub mod Values

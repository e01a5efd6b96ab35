-- What the contracts and proofs of this crate cite, beside the model: what a run is lent, and its verdict in parts.
pub mod Lent
pub mod Verdicts

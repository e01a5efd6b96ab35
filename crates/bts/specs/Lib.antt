-- What the contracts of this crate cite, beside the model.
pub mod Beginning
pub mod Told
pub mod Reported
pub mod Explained

-- What the contracts of this crate cite, beside the model.
pub mod Bus
pub mod Words

-- What the contracts of this crate cite, beside the model.
pub mod Found
pub mod InFlight
pub mod Ticked

-- What the contracts of `figures` cite. Assumes nothing.
pub mod Record

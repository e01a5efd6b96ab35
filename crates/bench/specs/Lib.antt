-- What the program writes, and its example, as theorems.
pub mod Text
pub mod Lines
pub mod Example

-- The trail that the grounds are told from, and that it follows the clock; the names of grounds.
pub mod Names
pub mod Trail
pub mod Pages
pub mod Follows
pub mod Turns

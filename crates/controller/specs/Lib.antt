-- The controller in the terms of crate rules.
pub mod View
pub mod Zeroed

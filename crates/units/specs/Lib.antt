-- The definitions that the contracts of crate units cite, and what its laws are proved by.
pub mod Comparisons
pub mod Range
pub mod Wave

-- The definitions that the contracts of crate window cite.
pub mod Support
pub mod Evaluation
pub mod Search
pub mod Laws
pub mod Numbers

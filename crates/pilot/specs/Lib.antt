-- The definitions that the contracts of crate pilot cite.
pub mod Bands
pub mod Laws
pub mod Verdicts

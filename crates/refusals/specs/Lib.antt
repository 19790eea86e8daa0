-- The refusals in the terms of crate rules.
pub mod Numbers

-- The calls' kinds and arguments in the terms of crate rules.
pub mod Views

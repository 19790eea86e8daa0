-- The parts of the controller in the terms of crate rules.
pub mod Counted
pub mod Views

-- The latched faults in the terms of crate rules.
pub mod Views
pub mod Told

-- Laws that the proofs of the code use, and the computed rows.
pub mod Rows
pub mod Counts
pub mod TakenCounts

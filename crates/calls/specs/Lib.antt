-- What a call hands back in the terms of crate rules.
pub mod Answers

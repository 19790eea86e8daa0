-- Laws that belong to no one function.
mod InTurn
pub mod Fixes
pub mod ZeroLaws

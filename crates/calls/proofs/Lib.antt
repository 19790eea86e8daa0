-- Laws that belong to no one function.
mod HandedBack
pub mod Fixes

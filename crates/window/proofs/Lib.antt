-- Laws that belong to no one function.
pub mod Sizes
pub mod Counting
pub mod Gathering
pub mod Refusals
mod Extremes
pub mod Laws

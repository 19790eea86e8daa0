-- Laws that belong to no one function.
pub mod Values
pub mod GreatestBelow
pub mod Ranges
pub mod Laws
pub mod Table
pub mod AsTheTable

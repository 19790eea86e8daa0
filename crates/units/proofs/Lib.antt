-- Laws that belong to no one function.
mod Ago
pub mod Booleans
pub mod FromTo
pub mod LevelOrder

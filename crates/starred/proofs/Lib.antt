-- The proof of the starred bench figures.
pub mod Starred
pub mod StarredHold

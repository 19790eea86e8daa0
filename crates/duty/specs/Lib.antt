-- The definitions that the contracts of crate duty cite.
pub mod GreatestBelow
pub mod Reading
pub mod DutyFor
pub mod Numbers

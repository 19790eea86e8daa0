-- What the conversions of the rows are held to.
pub mod Words

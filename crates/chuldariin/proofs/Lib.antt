-- The structs that cross to the host, what holds of every exported call and of every run of them, and that the exported functions promise it.
pub mod Crossing
pub mod EachDuty
pub mod Exports

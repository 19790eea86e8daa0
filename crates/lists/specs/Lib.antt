-- The replay of a list of calls, and what is claimed of every list.
pub mod Replay
pub mod Demand3
pub mod Traces
pub mod ClosedIsSound
pub mod LastSet
pub mod LastMeasured
pub mod LastGranted
pub mod FirstFault
pub mod OverCurrent
pub mod WithoutLinks
pub mod EveryList

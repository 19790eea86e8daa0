-- A run of the controller's calls, and what holds of every call and of every run.
pub mod Run
pub mod EachCall
pub mod EveryRun
pub mod Lent
pub mod HostRun

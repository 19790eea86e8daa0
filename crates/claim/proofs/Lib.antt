-- The proofs of what holds of every call and of every run of the calls, and that there are runs.
pub mod Begun
pub mod EachCall
pub mod RunReplies
pub mod EveryRun
pub mod Exists
pub mod HostRun

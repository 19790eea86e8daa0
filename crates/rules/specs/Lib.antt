-- The controller of documents 01 and 02: what one call does, by definitions.
pub mod Faults
pub mod Lines
pub mod State
pub mod Calls
pub mod Begin
pub mod Refusals
pub mod Pairs
pub mod Step1Event
pub mod Step2Latches
pub mod Step3Wave
pub mod Step4Opening
pub mod Step5Closing
pub mod Accepted
pub mod Altered
pub mod Reply
pub mod Answer

-- What holds of one call.
pub mod RefusedExactly
pub mod FaultOrder
pub mod PlainPost
pub mod Reached

-- The definitions that the contracts of crate chuldariin cite, a run of its calls, and what holds of a reading and of a duty.
pub mod Duties
pub mod EachDuty

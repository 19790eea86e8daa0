-- One lemma for every exported call, whatever its parameters.
pub mod Structs
pub mod Parameters
pub mod LentCall

-- What the slot table tells, for the proofs of this crate and of those that use it.
pub mod Roles
pub mod Laws
pub mod Pairs
pub mod Steps

-- Laws of added reads, of runs of words, of what a Match compares, of how a record's nets stand, and of how few its
-- reads are, for the proofs of this crate and of those that use it.
pub mod Adding
pub mod Runs
pub mod Compared
pub mod Records
pub mod Fit

-- The proofs of this crate.
pub mod Exits
pub mod Records
pub mod Trees
pub mod Scripts
pub mod Passes

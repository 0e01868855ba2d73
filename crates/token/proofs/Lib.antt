-- Lemmas that the proofs of this crate share.
pub mod Same
pub mod Derived

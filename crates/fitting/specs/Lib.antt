-- What the contracts of this crate cite.
pub mod Traits
pub mod Summary
pub mod Sites
pub mod Derived

-- What the contracts of this crate cite.
pub mod Codes
pub mod Kinds
pub mod Levels
pub mod Tables

-- What the contracts of this crate cite.
pub mod Reads
pub mod Width
pub mod Passes

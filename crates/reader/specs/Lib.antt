-- What the contracts of this crate cite.
pub mod Table
pub mod Post
pub mod Reads
pub mod Width

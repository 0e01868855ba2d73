-- What the contracts of this crate cite.
pub mod Record
pub mod Siblings
pub mod Formed
pub mod Building

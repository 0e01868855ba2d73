-- The proofs of this crate.
pub mod Fuel
pub mod Begun
pub mod Eats
pub mod Taking
pub mod Plain
pub mod Width
pub mod Operands

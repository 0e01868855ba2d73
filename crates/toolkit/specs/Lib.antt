-- What the contracts of this crate cite.
pub mod Ledger
pub mod Keys
pub mod Calls
pub mod Pools
pub mod Run

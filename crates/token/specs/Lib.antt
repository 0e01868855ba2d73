-- What the contracts of this crate cite.
pub mod Every
pub mod Same

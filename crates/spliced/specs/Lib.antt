pub mod Linked
pub mod Notes
pub mod Heads
pub mod Layout
pub mod Store

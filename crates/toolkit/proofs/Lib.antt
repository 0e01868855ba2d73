pub mod Books
pub mod Releasing
pub mod Fresh
pub mod Runs
pub mod Raising
pub mod Balance

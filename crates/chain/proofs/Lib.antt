pub mod Counting
pub mod Laws
pub mod Records
pub mod Runs
pub mod Walks

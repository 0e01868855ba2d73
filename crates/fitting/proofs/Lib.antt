pub mod Summaries
pub mod Arities
pub mod Asked
pub mod Marks
pub mod Attributes

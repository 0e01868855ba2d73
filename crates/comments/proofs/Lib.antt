pub mod Joins
pub mod Parts
mod Turn
mod Kept
mod Below

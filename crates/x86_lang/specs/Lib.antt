pub mod Assembly
pub mod Whole

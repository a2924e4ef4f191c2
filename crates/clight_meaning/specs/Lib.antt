pub mod Counts
pub mod Meaning

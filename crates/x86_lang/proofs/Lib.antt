pub mod Differ
pub mod Ends

pub mod TableLemmas
pub mod Entries
pub mod Parts

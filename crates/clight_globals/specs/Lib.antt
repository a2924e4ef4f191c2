pub mod Globals
pub mod GlobalsOf

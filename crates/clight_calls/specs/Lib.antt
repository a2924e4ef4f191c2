pub mod Builtins
pub mod Names
pub mod Members
pub mod Calls
pub mod Passing

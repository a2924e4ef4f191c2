pub mod Typing
pub mod Statements

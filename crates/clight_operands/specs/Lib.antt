pub mod Applied
pub mod Operands
pub mod Shown

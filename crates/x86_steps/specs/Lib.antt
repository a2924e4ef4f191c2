pub mod Registers
pub mod Flags
pub mod Arithmetic
pub mod Accesses
pub mod Execution

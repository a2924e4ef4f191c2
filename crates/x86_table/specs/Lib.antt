pub mod Instruction
pub mod Mnemonic
pub mod Names
pub mod OfOperands
pub mod Operand
pub mod Table

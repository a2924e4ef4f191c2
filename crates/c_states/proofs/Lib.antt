pub mod Operands
pub mod OtherFrames
pub mod OtherWords
pub mod Same
pub mod Stars

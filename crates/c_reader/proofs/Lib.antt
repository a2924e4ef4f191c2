pub mod Answered
pub mod Bottoms
pub mod NameBytes
pub mod OtherFrames
mod OtherTokens

pub mod Words
pub mod Kinds
pub mod FileTokens
pub mod Parts
pub mod Frames
pub mod Code
pub mod Answers
pub mod FileAnswers

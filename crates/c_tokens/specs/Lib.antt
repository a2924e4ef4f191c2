pub mod Lexemes
pub mod Tokens
pub mod Constants
pub mod Scanning

pub mod Tokens
pub mod Derivations
pub mod Yield
pub mod Spelling
pub mod Contexts
pub mod Machine
pub mod Reading
pub mod Nesting

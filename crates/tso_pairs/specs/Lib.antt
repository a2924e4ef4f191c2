pub mod Answering
pub mod Draining
pub mod Groups
pub mod Growing
pub mod Lagging
pub mod Rightness

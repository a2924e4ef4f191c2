pub mod Places
pub mod Holes
pub mod Joining

pub mod Lists
pub mod Pieces
pub mod Runs
pub mod Compose
pub mod Tied
pub mod Lifted
pub mod Literally
pub mod Monotone
pub mod Simulated
pub mod Copies
pub mod Waiting
pub mod Places
pub mod Safely
pub mod Theorem
mod Looking

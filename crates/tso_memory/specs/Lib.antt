pub mod Buffer
pub mod Kept
pub mod Laws
pub mod Memory
pub mod Through

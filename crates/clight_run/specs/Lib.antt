pub mod Laws
pub mod Source
pub mod Standing
pub mod Tried

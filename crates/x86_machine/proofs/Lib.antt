pub mod Entries
pub mod Lists
pub mod Outcomes
pub mod States
pub mod Extents
pub mod Least
pub mod Mapped
pub mod Calls
pub mod Loads
pub mod Creations
pub mod DataBytes
mod Externals

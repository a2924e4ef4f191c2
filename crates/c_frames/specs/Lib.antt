pub mod Nests
pub mod Frames
pub mod Readers

pub mod Blocks
pub mod Fronts
pub mod Functions
pub mod Ends

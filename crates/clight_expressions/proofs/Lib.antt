pub mod Stops
pub mod Rest
pub mod Declarators
pub mod Loops
pub mod Arms
pub mod Leaves
pub mod Parts
pub mod Same

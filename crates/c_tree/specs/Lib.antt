pub mod Trees
pub mod Shape
pub mod FileShape
pub mod Reading
pub mod Printing
pub mod Writing
pub mod Statements

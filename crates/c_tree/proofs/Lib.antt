pub mod Rows
pub mod Shapes
pub mod Declarators
pub mod Puts
pub mod Statements

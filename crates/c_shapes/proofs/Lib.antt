pub mod Grammar
pub mod Yields
pub mod Files

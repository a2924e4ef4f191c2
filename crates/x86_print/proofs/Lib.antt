pub mod Rendered
pub mod RenderedInstr
pub mod RenderedMemory
